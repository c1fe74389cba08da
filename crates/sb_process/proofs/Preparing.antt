-- Room and copies for changes.
use Rattle.std.proofs.Common.{◌≡◌, ◌∙◌, ℕ, ◌+◌, ◌-◌, ◌^◌, ◌<◌, ◌≤◌, Bool, true, false, not, cond, length, nat_eq, suc, get_or, drop, Option, List, [], ◌∷◌, ◌++◌, map, Some, Result, Ok, Err, OnOk, OnErr, option_map, unwrap_or, refl, sym, ap, subst, arith, eqb-true}
use Rattle.std.specs.declared.alloc.AllocError.{AllocError}
use Rattle.std.proofs.Math.Seq.{drop-cons}
use Rattle.std.proofs.lemmas.List.{length-append, length-map}
use Rattle.sb_value.specs.declared.value.Value.{Value}
use Rattle.sb_value.specs.declared.change.Change.{Change}
use Rattle.sb_value.specs.declared.change.ChangeKind.{ChangeKind}
use Rattle.sb_value.specs.declared.change.ChangeKind.TheVariants.{Inserted, Deleted, Updated}
use Rattle.sb_value.specs.declared.id.Who.{Who}
use Rattle.sb_value.specs.Table.{Table, IsProper, new_row, after_kind, has_table, table_at}
use Rattle.sb_rawlog.specs.Records.{Record}
use Rattle.sb_rawlog.specs.Sessions.{OthersStay}
use Rattle.sb_eval.specs.Laws.{inserts, counted_with, AreMakeable}
use Rattle.sb_tables.specs.Undo.{places_after}
use Rattle.sb_tables.specs.Stored.{Stored}
use Rattle.sb_tables.specs.Held.{Held, entries, numbered, has_number, stored_at, with_stored, reserved}
use Rattle.sb_process.specs.Made.{AreNumbered, AreStored, EachBelow, NumbersBelow, without_room}
use Rattle.sb_process.specs.Make.{HasPlaceFor, room_after}
use Rattle.sb_process.specs.PreparedChanges.{CanApply, HavePlacesFor, copies_of}
use Rattle.sb_process.specs.declared.database.Database.{Database}
use Rattle.sb_process.specs.Leaves.{Leaves}
use Rattle.sb_process.specs.Represents.{Represents, who_in}
use Rattle.sb_process.specs.Setting.{Setting, Progress}
use Rattle.sb_process.proofs.Making.{number-entries, number-room, entries-room, table-stored, room-with_stored}
use Rattle.sb_process.proofs.Settling.{none-with, sound-room}
use Rattle.sb_process.proofs.Growing.{few}
use Rattle.sb_process.proofs.Numbers.{each-weaken}
use Rattle.sb_process.proofs.Requests.{stands_with}
use Rattle.sb_process.proofs.Applying.{stored-with_stored, next_below}

-- ---- room

same_but_room : (id : ℕ) (tables : List Held) → AreNumbered tables → with_stored id (record (stored_at tables id) { room = 0 }) (map without_room tables) ≡ map without_room tables
same_but_room id [] n = refl
same_but_room id (h ∷ tables) n = by (nat_eq h.id id) refl (same_but_room id tables n.1)
  where
    by : (b : Bool) → nat_eq h.id id ≡ b → with_stored id (record (stored_at tables id) { room = 0 }) (map without_room tables) ≡ map without_room tables →
        with_stored id (record (unwrap_or (option_map (λ (x : Held). x.stored) (cond b (Some h) (numbered tables id))) (stored_at [] id)) { room = 0 }) (without_room h ∷ map without_room tables)
        ≡ without_room h ∷ map without_room tables
    by true p rest =
        let alone : has_number tables id ≡ false = ap (has_number tables) (sym (eqb-true h.id id p)) ∙ n.0 in
        λ i. cond (p i) (without_room h) (without_room h) ∷ none-with id (record h.stored { room = 0 }) (map without_room tables) (number-room tables id ∙ alone) i
    by false p rest = λ i. cond (p i) (record (without_room h) { stored = record (stored_at tables id) { room = 0 } }) (without_room h) ∷ rest i

pub room_for : (r : Result (Unit {0}) AllocError) (id more : ℕ) (old new : List Held) → has_number old id ≡ true → OnOk r (new ≡ with_stored id (reserved more (stored_at old id)) old) → OnOk r (more ≤ (stored_at new id).room)
room_for (Ok u) id more old new there e =
    subst (λ (s : Stored). more ≤ s.room) (sym (ap (λ ts. stored_at ts id) e ∙ stored-with_stored id (reserved more (stored_at old id)) old there)) (omega arith)
room_for (Err f) id more old new there e = tt

pub same_rows : (r : Result (Unit {0}) AllocError) (id more : ℕ) (old new : List Held) → AreNumbered old → OnOk r (new ≡ with_stored id (reserved more (stored_at old id)) old) → OnErr r (new ≡ old) →
    map without_room new ≡ map without_room old
same_rows (Ok u) id more old new n ok err = ap (map without_room) ok ∙ room-with_stored id (reserved more (stored_at old id)) old ∙ same_but_room id old n
same_rows (Err f) id more old new n ok err = ap (map without_room) err

-- ---- copies

-- one change more, in front of those that were copied
pub copied_more : (list : List Change) (left : ℕ) (c : Change) → left < length list → c ≡ get_or list left c → copies_of (drop left list) ≡ copies_of (drop (left + 1) list) ++ c.new ∷ []
copied_more list left c less at =
    let next : suc left ≡ left + 1 = omega arith in
    ap copies_of (drop-cons list left c less) ∙ (λ i. copies_of (drop (next i) list) ++ (sym at i).new ∷ [])

-- the last element is one, and so are those in front of it
pub last_same : (xs ys : List (Option (List Value))) (x y : Option (List Value)) → xs ++ x ∷ [] ≡ ys ++ y ∷ [] → (xs ≡ ys) × (x ≡ y)
last_same [] [] x y e = (refl, cc)
last_same [] (b ∷ ys) x y e = absurd (omega (arith, simp length-append at (ap length e)))
last_same (a ∷ xs) [] x y e = absurd (omega (arith, simp length-append at (ap length e)))
last_same (a ∷ xs) (b ∷ ys) x y e =
    let front : a ≡ b = cc in
    let behind : xs ++ x ∷ [] ≡ ys ++ y ∷ [] = cc in
    let rest = last_same xs ys x y behind in
    ((λ i. front i ∷ rest.0 i), rest.1)

-- ---- places

inserts_few : (cs : List Change) → inserts cs ≤ length cs
inserts_few [] = omega arith
inserts_few (c ∷ cs) = by c.kind (inserts_few cs)
  where
    by : (k : ChangeKind) → inserts cs ≤ length cs → counted_with k (inserts cs) ≤ length (c ∷ cs)
    by Inserted rest = omega (arith, rest)
    by Deleted rest = omega (arith, rest)
    by Updated rest = omega (arith, rest)

abbrev Row : Type 0
Row = ℕ × List Value

-- the changes after one of a kind
places_by : (k : ChangeKind) (c : Change) (cs : List Change) (s : Stored) → counted_with k (inserts cs) ≤ s.room → s.table.next + counted_with k (inserts cs) < 2 ^ 64 - 1 →
    (0 < counted_with k (inserts cs) → length s.table.rows + counted_with k (inserts cs) ≤ 4096) →
    ((t : Stored) → inserts cs ≤ t.room → t.table.next + inserts cs < 2 ^ 64 - 1 → (0 < inserts cs → length t.table.rows + inserts cs ≤ 4096) → HavePlacesFor cs t) →
    HasPlaceFor k s × HavePlacesFor cs (record { table = after_kind k c s.table; places = places_after k c.tuple s.places; room = room_after k s.room })
places_by Inserted c cs s room next full rest =
    let now : length s.table.rows + (inserts cs + 1) ≤ 4096 = full (omega arith) in
    ((omega (arith, room), omega (arith, next), omega (arith, now)), rest _ (omega (arith, room)) (omega (arith, next)) (λ some. omega (arith, now, length-append s.table.rows ((s.table.next, new_row c) ∷ []))))
places_by Deleted c cs s room next full rest = (tt, rest _ room next (λ some. omega (arith, full some, few (λ (r : Row). not (nat_eq r.0 c.tuple)) s.table.rows)))
places_by Updated c cs s room next full rest = (tt, rest _ room next (λ some. omega (arith, full some, length-map s.table.rows (λ (r : Row). cond (nat_eq r.0 c.tuple) (c.tuple, new_row c) r))))

places_for : (cs : List Change) (s : Stored) → inserts cs ≤ s.room → s.table.next + inserts cs < 2 ^ 64 - 1 → (0 < inserts cs → length s.table.rows + inserts cs ≤ 4096) → HavePlacesFor cs s
places_for [] s room next full = tt
places_for (c ∷ cs) s room next full = places_by c.kind c cs s room next full (λ t. places_for cs t)

-- ---- all that changes need

numbered_room : (one other : List Held) → map without_room one ≡ map without_room other → AreNumbered one → AreStored one → AreNumbered other
numbered_room one other e n s = (sound-room one other e n s).0

same_entries : (one other : List Held) → map without_room one ≡ map without_room other → entries one ≡ entries other
same_entries one other e = sym (entries-room one) ∙ ap entries e ∙ entries-room other

-- the changes can be made once there is room for them
pub can_apply : (old new : List Held) (who : Who) (id : ℕ) (cs : List Change) → AreMakeable (entries old) who id cs → AreNumbered old → AreStored old → has_number old id ≡ true →
    EachBelow (2 ^ 64 - 4097) (entries old) → map without_room new ≡ map without_room old → length cs ≤ 4096 → inserts cs ≤ (stored_at new id).room → CanApply new who id cs
can_apply old new who id cs m n s there below same short room =
    let seen : entries new ≡ entries old = same_entries new old same in
    let at : table_at (entries old) id ≡ (stored_at new id).table = ap (λ es. table_at es id) (sym seen) ∙ table-stored new id in
    let next : (table_at (entries old) id).next < 2 ^ 64 - 4097 = next_below (2 ^ 64 - 4097) id (entries old) (number-entries old id ∙ there) below in
    record {
      numbered = numbered_room old new (sym same) n s;
      there = sym (number-entries new id) ∙ ap (λ es. has_table es id) seen ∙ number-entries old id ∙ there;
      proper = subst (λ es. IsProper es cs) (sym seen) m.proper;
      own = m.own;
      places = places_for cs (stored_at new id) room
          (let q : (stored_at new id).table.next < 2 ^ 64 - 4097 = subst (λ (t : Table). t.next < 2 ^ 64 - 4097) at next in omega (arith, q, inserts_few cs, short))
          (λ some. subst (λ (t : Table). length t.rows + inserts cs ≤ 4096) at (m.few some));
    }

-- room makes no difference to a transaction
pub with_room : (d : Database) (tables : List Held) (session : ℕ) (records more : List Record) (clock later : ℕ) (setting : Setting) (progress : Progress) (origin : List Held) → Represents origin d session records clock setting progress →
    map without_room tables ≡ map without_room d.tables → more ≡ records → later ≡ clock → Represents origin (record d { tables = tables }) session more later setting progress
with_room d tables session records more clock later setting progress origin r same kept still =
    subst (λ (rs : List Record). Represents origin (record d { tables = tables }) session rs later setting progress) (sym kept)
    (subst (λ (time : ℕ). Represents origin (record d { tables = tables }) session records time setting progress) (sym still)
    (stands_with r tables d.locks progress.locks (record { numbered = r.made.numbered; stored = r.made.stored; proper = r.made.proper; made = same ∙ r.made.made }) r.locks r.locked r.candidates))

pub numbers_same : (n : ℕ) (one other : List Held) → map without_room one ≡ map without_room other → NumbersBelow n one → NumbersBelow n other
numbers_same n one other e b = subst (EachBelow n) (same_entries one other e) b

-- what has only more room leaves all as it was
pub leaves-prepared : (d : Database) {tables : List Held} {session : ℕ} {records more : List Record} {clock later : ℕ} → map without_room tables ≡ map without_room d.tables → more ≡ records → later ≡ clock →
    Leaves 0 d (record d { tables = tables }) session records more clock later
leaves-prepared d {tables} {session} {records} same kept still = record {
  id = refl;
  sessions = λ s r other. (refl, refl, refl);
  others = subst (λ (rs : List Record). OthersStay (who_in d session) records rs) (sym kept) (λ other differs. refl);
  times = (omega (arith, still), omega (arith, still));
  numbers = λ n below. each-weaken n (n + 0) (entries tables) (omega arith) (numbers_same n d.tables tables (sym same) below);
}
