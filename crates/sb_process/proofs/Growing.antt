-- A session's transaction with one change more.
use Rattle.std.proofs.Common.{◌≡◌, ◌∙◌, ℕ, zero, suc, ◌+◌, ◌<◌, ◌≤◌, Bool, true, false, ◌&&◌, ◌||◌, cond, nat_eq, nat_lt, List, [], ◌∷◌, ◌++◌, map, filter, take, drop, length, Some, None, refl, sym, ap, subst, arith, eq-eqb}
use Rattle.std.proofs.lemmas.Bool.{le-ltb, lt-ltb, or_right}
use Rattle.std.proofs.lemmas.List.{append-nil, append_assoc, length-map, take-append-drop, drop-append-le}
use Rattle.std.specs.List.{list_any}
use Rattle.sb_value.specs.declared.change.Change.{Change}
use Rattle.sb_value.specs.declared.change.ChangeKind.{ChangeKind}
use Rattle.sb_value.specs.declared.change.ChangeKind.TheVariants.{Inserted, Deleted, Updated}
use Rattle.sb_value.specs.declared.id.Who.{Who}
use Rattle.sb_value.specs.declared.lock.LockMode.TheVariants.{Write}
use Rattle.sb_value.specs.declared.net.Triggers.{Triggers}
use Rattle.sb_value.specs.Flags.{flag_at, share_place}
use Rattle.sb_value.specs.Laws.{IsLife, AreLives, kind_triggers, ProperListsHaveLives, LastChangeTriggers}
use Rattle.sb_value.specs.Columns.{differing}
use Rattle.sb_value.specs.NetEffect.{history, is_of, is_operation, is_triggered}
use Rattle.sb_value.specs.Values.{same_row}
use Rattle.sb_value.specs.declared.net.Net.TheVariants as net
use Rattle.sb_value.specs.Locks.{Locks}
use Rattle.sb_value.specs.Table.{IsTable, IsProper, table_at, new_row, old_row}
use Rattle.sb_rawlog.specs.Changes.{author, is_by}
use Rattle.sb_rawlog.specs.Records.{Record, before}
use Rattle.sb_rawlog.specs.Sessions.{records_by, changes_by, changes_between, mark_at}
use Rattle.sb_tables.specs.Held.{Held, entries}
use Rattle.sb_index.specs.Operation.{Operation, names, places}
use Rattle.sb_index.specs.Operation.Operation.{insert, delete, update, update_of}
use Rattle.sb_index.specs.Places.{at_place}
use Rattle.sb_index.specs.Stands.{stands, triggers_of}
use Rattle.sb_index.specs.TableSets.{TableSets}
use Rattle.sb_locks.specs.Held.{held}
use Rattle.sb_catalog.specs.declared.rule.Rule.{Rule}
use Rattle.sb_process.specs.declared.database.Database.{Database}
use Rattle.sb_process.specs.declared.memory_use.MemoryUse.{MemoryUse}
use Rattle.sb_process.specs.Made.{AreStored, AreMade}
use Rattle.sb_catalog.specs.Definitions.{AreIndexed}
use Rattle.sb_process.specs.Represents.{Represents, AreCandidates, AreLocked, who_in}
use Rattle.sb_process.specs.Setting.{Setting, Progress, rule_is_triggered}
use Rattle.sb_process.specs.Transactions.{Kept, mark_of, tested_of, is_candidate_of}
use Rattle.sb_process.proofs.Testing.{still-untriggered, between-kept}

-- ---- filters

pub filtered : {A : Type 0} (p : A → Bool) (xs ys : List A) → filter p (xs ++ ys) ≡ filter p xs ++ filter p ys
filtered p [] ys = refl
filtered {A} p (x ∷ xs) ys = by (p x) (filtered p xs ys)
  where
    by : (b : Bool) → filter p (xs ++ ys) ≡ filter p xs ++ filter p ys → cond b (x ∷ filter p (xs ++ ys)) (filter p (xs ++ ys)) ≡ cond b (x ∷ filter p xs) (filter p xs) ++ filter p ys
    by true e = ap (λ (l : List A). x ∷ l) e
    by false e = e

pub few : {A : Type 0} (p : A → Bool) (xs : List A) → length (filter p xs) ≤ length xs
few p [] = omega arith
few {A} p (x ∷ xs) = by (p x) (few p xs)
  where
    by : (b : Bool) → length (filter p xs) ≤ length xs → length (cond b (x ∷ filter p xs) (filter p xs)) ≤ length (x ∷ xs)
    by true h = omega (arith, h)
    by false h = omega (arith, h)

-- ---- marks

-- a time that isn't past the clock marks what it did
mark_stays : (who : Who) (time clock : ℕ) (c : Change) (rs : List Record) → time ≤ clock → mark_at who time (rs ++ (clock, c) ∷ []) ≡ mark_at who time rs
unfolding records_by before
mark_stays who time clock c rs h =
    ap (λ (l : List Record). length (before time l)) (filtered (λ (r : Record). is_by who r.1) rs ((clock, c) ∷ []))
    ∙ ap (λ (l : List Record). length l) (filtered (λ (r : Record). nat_lt r.0 time) (records_by who rs) (records_by who ((clock, c) ∷ [])))
    ∙ ap (λ (l : List Record). length (before time (records_by who rs) ++ l)) (none (is_by who c))
    ∙ ap (λ (l : List Record). length l) (append-nil (before time (records_by who rs)))
  where
    none : (b : Bool) → before time (cond b ((clock, c) ∷ []) []) ≡ []
    none true = ap (λ (b : Bool). cond b ((clock, c) ∷ []) []) (le-ltb clock time h)
    none false = refl

mark_within : (who : Who) (time : ℕ) (rs : List Record) → mark_at who time rs ≤ length (changes_by who rs)
unfolding before
mark_within who time rs = omega (arith, few (λ (r : Record). nat_lt r.0 time) (records_by who rs), length-map (records_by who rs) (λ (r : Record). r.1))

-- ---- lives

life_tail : (c : Change) (cs : List Change) → IsLife (c ∷ cs) → IsLife cs
life_tail c [] h = tt
life_tail c (d ∷ ds) h = h.1

life_end : (cs ds : List Change) → IsLife (cs ++ ds) → IsLife ds
life_end [] ds h = h
life_end (c ∷ cs) ds h = life_end cs ds (life_tail c (cs ++ ds) h)

pub tables_are : (tables : List Held) (id : ℕ) → AreStored tables → IsTable (table_at (entries tables) id)
tables_are [] id s = (tt, tt)
tables_are (h ∷ tables) id s = by (nat_eq h.id id) (tables_are tables id s.1)
  where
    by : (b : Bool) → IsTable (table_at (entries tables) id) → IsTable (cond b h.stored.table (table_at (entries tables) id))
    by true rest = s.0.0
    by false rest = rest

-- the changes from a place on are lives
pub lives_from : (lives : ProperListsHaveLives) (origin : List Held) (cs ds : List Change) → AreStored origin → IsProper (entries origin) (cs ++ ds) → AreLives ds
lives_from lives origin cs ds s proper table tuple =
    life_end (history cs table tuple) (history ds table tuple)
    (subst IsLife (filtered (is_of table tuple) cs ds) (lives (entries origin) (cs ++ ds) table tuple (tables_are origin table s) proper))

-- ---- the index

-- a set that has what another has shares a place where the other does
shared : (xs named ys : List Bool) → length ys ≤ length xs → ((k : ℕ) → k < length xs → flag_at named k ≡ true → flag_at xs k ≡ true) → share_place named ys ≡ true → share_place xs ys ≡ true
shared xs [] ys le h e = absurd (cc)
shared xs (n ∷ named) [] le h e = absurd (cc)
shared [] (n ∷ named) (y ∷ ys) le h e = absurd (omega arith)
shared (x ∷ xs) (n ∷ named) (y ∷ ys) le h e = by n y (λ q. h zero (omega arith) q) (shared xs named ys (omega arith) (λ k less. h (suc k) (omega (arith, less)))) e
  where
    by : (n y : Bool) → (n ≡ true → x ≡ true) → (share_place named ys ≡ true → share_place xs ys ≡ true) → ((n && y) || share_place named ys) ≡ true → ((x && y) || share_place xs ys) ≡ true
    by true true first rest q = ap (λ (b : Bool). (b && true) || share_place xs ys) (first refl)
    by true false first rest q = or_right (x && false) (share_place xs ys) (rest q)
    by false true first rest q = or_right (x && true) (share_place xs ys) (rest q)
    by false false first rest q = or_right (x && false) (share_place xs ys) (rest q)

by_columns : (named columns : List Bool) (f : ℕ → Bool) → length columns ≤ 8 → ((k : ℕ) → k < 8 → flag_at named k ≡ true → f k ≡ true) → share_place named columns ≡ true → share_place (map f places) columns ≡ true
by_columns named columns f le h e = shared (map f places) named columns (omega arith) (λ k less q. at_place f k (omega (arith, less)) ∙ h k (omega (arith, less)) q) e

-- what triggers a rule triggers it in the index
in_index : (index : List (List TableSets)) (tenant : ℕ) (c : Change) (id : ℕ) (triggers : Triggers) (k : ChangeKind) →
    ((o : Operation) → names triggers o ≡ true → stands index tenant c.table o id ≡ true) → kind_triggers k triggers c ≡ true → kind_triggers k (triggers_of index tenant c.table id) c ≡ true
in_index index tenant c id triggers Inserted h e = h insert e
in_index index tenant c id triggers Deleted h e = h delete e
in_index index tenant c id triggers Updated h e = differ (same_row (old_row c) (new_row c)) e
  where
    columns : List Bool
    columns = differing (old_row c) (new_row c)

    f : ℕ → Bool
    f k = stands index tenant c.table (update_of k) id

    by : (b : Bool) → triggers.updated ≡ b → (b || share_place triggers.columns columns) ≡ true → (stands index tenant c.table update id || share_place (map f places) columns) ≡ true
    by true p q = ap (λ (b : Bool). b || share_place (map f places) columns) (h update p)
    by false p q =
        or_right (stands index tenant c.table update id) (share_place (map f places) columns)
        (by_columns triggers.columns columns f (omega arith) (λ k less named. h (update_of k) ((λ i. lt k less i && named i))) q)
      where
        lt : (k : ℕ) → k < 8 → nat_lt k 8 ≡ true
        lt k less = lt-ltb k 8 less

    differ : (b : Bool) → is_operation triggers (cond b None (Some (net.Updated (old_row c) (new_row c) columns))) ≡ true
        → is_operation (triggers_of index tenant c.table id) (cond b None (Some (net.Updated (old_row c) (new_row c) columns))) ≡ true
    differ true q = absurd (cc)
    differ false q = by triggers.updated refl q

-- ---- candidates

module _ (trig : LastChangeTriggers) (lives : ProperListsHaveLives) (index : List (List TableSets)) (tenant session : ℕ) (old new : Kept) (set : List Bool) (c : Change) (all : List Rule) where
  -- the rules that the change may trigger are candidates, and those that were before
  abbrev Joins : Type 0
  Joins =
      ((r : ℕ) → is_candidate_of new session r ≡ (is_candidate_of old session r || ((nat_eq session session) && flag_at set r)))
      × ((r : ℕ) → flag_at set r ≡ kind_triggers c.kind (triggers_of index tenant c.table r) c)

  named_in : AreIndexed index tenant all → (rule : Rule) → ((p : Rule → Bool) → p rule ≡ true → list_any p all ≡ true) → rule.active ≡ true → c.table ≡ rule.table →
      (o : Operation) → names rule.triggers o ≡ true → stands index tenant c.table o rule.id ≡ true
  named_in indexed rule member active same o named =
      indexed c.table o rule.id
      ∙ member (λ x. x.active && ((nat_eq x.table c.table) && ((nat_eq x.id rule.id) && names x.triggers o)))
      (λ i. active i && (eq-eqb rule.table c.table (sym same) i && (eq-eqb rule.id rule.id refl i && named i)))

  joined : Joins → (rule : Rule) → kind_triggers c.kind (triggers_of index tenant c.table rule.id) c ≡ true → is_candidate_of new session rule.id ≡ true
  joined j rule e = j.0 rule.id ∙ or_right (is_candidate_of old session rule.id) (nat_eq session session && flag_at set rule.id) (λ i. eq-eqb session session refl i && (j.1 rule.id ∙ e) i)

  one_candidate : Joins → AreIndexed index tenant all → (origin : List Held) (p : Progress) (rule : Rule) → AreStored origin → IsProper (entries origin) (p.changes ++ c ∷ []) → p.marks rule.id ≤ length p.changes →
      ((q : Rule → Bool) → q rule ≡ true → list_any q all ≡ true) → (rule.active ≡ true → rule_is_triggered p rule ≡ true → is_candidate_of old session rule.id ≡ true) → rule.active ≡ true →
      is_triggered rule.triggers rule.table (drop (p.marks rule.id) (p.changes ++ c ∷ [])) ≡ true → is_candidate_of new session rule.id ≡ true
  one_candidate j indexed origin p rule s proper within member was active triggered = by (rule_is_triggered p rule) refl
    where
      m : ℕ
      m = p.marks rule.id

      since : List Change
      since = drop m p.changes

      cut : drop m (p.changes ++ c ∷ []) ≡ since ++ c ∷ []
      cut = drop-append-le m p.changes (c ∷ []) within

      whole : take m p.changes ++ (since ++ c ∷ []) ≡ p.changes ++ c ∷ []
      whole = sym (append_assoc (take m p.changes) (drop m p.changes) (c ∷ [])) ∙ ap (λ l. l ++ c ∷ []) (take-append-drop m p.changes)

      by : (b : Bool) → rule_is_triggered p rule ≡ b → is_candidate_of new session rule.id ≡ true
      by true e = j.0 rule.id ∙ ap (λ (b : Bool). b || ((nat_eq session session) && flag_at set rule.id)) (was active e)
      by false e =
          let found = trig rule.triggers rule.table since c (lives_from lives origin (take m p.changes) (since ++ c ∷ []) s (subst (IsProper (entries origin)) (sym whole) proper)) e
          (ap (is_triggered rule.triggers rule.table) (sym cut) ∙ triggered) in
          joined j rule (in_index index tenant c rule.id rule.triggers c.kind (named_in indexed rule member active found.0) found.1)

  candidates_grow : Joins → AreIndexed index tenant all → (origin : List Held) (p : Progress) → AreStored origin → IsProper (entries origin) (p.changes ++ c ∷ []) → ((r : ℕ) → p.marks r ≤ length p.changes) →
      (rules : List Rule) → ((q : Rule → Bool) → list_any q rules ≡ true → list_any q all ≡ true) → AreCandidates old session p rules → AreCandidates new session (record p { changes = p.changes ++ c ∷ [] }) rules
  candidates_grow j indexed origin p s proper within [] member was = tt
  candidates_grow j indexed origin p s proper within (rule ∷ rules) member was = (
    one_candidate j indexed origin p rule s proper (within rule.id) (λ q e. member q (ap (λ (b : Bool). b || list_any q rules) e)) was.0,
    candidates_grow j indexed origin p s proper within rules (λ q e. member q (or_right (q rule) (list_any q rules) e)) was.1,
  )

-- ---- locks

locked_more : (locks : Locks) (session : ℕ) (c : Change) (cs : List Change) → AreLocked locks session cs → locks session c.table Write ≡ true → AreLocked locks session (cs ++ c ∷ [])
locked_more locks session c [] h e = (e, tt)
locked_more locks session c (d ∷ cs) h e = (h.0, locked_more locks session c cs h.1 e)

-- ---- the transaction

pub with_change : (trig : LastChangeTriggers) (lives : ProperListsHaveLives) (index : List (List TableSets)) (d : Database) (session : ℕ) (records more : List Record) (clock later : ℕ) (setting : Setting) (progress : Progress)
    (origin : List Held) (c : Change) (tables : List Held) (kept : Kept) (memory : MemoryUse) (set : List Bool) → Represents origin d session records clock setting progress → AreIndexed index d.id setting.rules →
    author c ≡ who_in d session → held d.locks session c.table Write ≡ true → AreMade origin (progress.changes ++ c ∷ []) tables →
    ((s r : ℕ) → mark_of kept s r ≡ mark_of d.transactions s r) → ((s r : ℕ) → tested_of kept s r ≡ tested_of d.transactions s r) → ((s r : ℕ) → is_candidate_of kept s r ≡ (is_candidate_of d.transactions s r || ((nat_eq s session) && flag_at set r))) →
    ((r : ℕ) → flag_at set r ≡ kind_triggers c.kind (triggers_of index c.tenant c.table r) c) → more ≡ records ++ (clock, c) ∷ [] → changes_by (author c) more ≡ changes_by (author c) records ++ c ∷ [] →
    later ≡ clock + 1 → Represents origin (record d { tables = tables; transactions = kept; memory = memory }) session more later setting (record progress { changes = progress.changes ++ c ∷ [] })
with_change trig lives index d session records more clock later setting progress origin c tables kept memory set r indexed by locked made marks tested candidates flags appended own moved =
    let who : Who = who_in d session in
    let cs : List Change = progress.changes ++ c ∷ [] in
    let within = λ (rule : ℕ).
    subst (λ (m : ℕ). m ≤ length progress.changes) (sym (r.marks rule)) (subst (λ (l : List Change). mark_at who (mark_of d.transactions session rule) records ≤ length l) r.changes (mark_within who (mark_of d.transactions session rule) records)) in
    record {
      who = r.who;
      changes = subst (λ (w : Who). changes_by w more ≡ changes_by w records ++ c ∷ []) by own ∙ ap (λ (l : List Change). l ++ c ∷ []) r.changes;
      past = λ rule. let q : mark_of d.transactions session rule ≤ clock = r.past rule in let e : mark_of kept session rule ≡ mark_of d.transactions session rule = marks session rule in omega (arith, q, e, moved);
      tested = λ rule. let q = r.tested rule in let e = marks session rule in let f = tested session rule in (let a = q.0 in omega arith, let b = q.1 in omega (arith, moved));
      untriggered = still-untriggered who d.transactions kept records more
          (λ rule. (λ i. changes_between who (marks session rule i) (tested session rule i) (appended i)) ∙ between-kept who (mark_of d.transactions session rule) (tested_of d.transactions session rule) clock c records (r.tested rule).1)
          setting.rules r.untriggered;
      marks = λ rule.
          r.marks rule
          ∙ sym (mark_stays who (mark_of d.transactions session rule) clock c records (r.past rule))
          ∙ (λ i. mark_at who (sym (marks session rule) i) (sym appended i));
      base = r.base;
      made = made;
      locks = r.locks;
      locked = locked_more progress.locks session c progress.changes r.locked (sym (r.locks session c.table Write) ∙ locked);
      candidates = candidates_grow trig lives index d.id session d.transactions kept set c setting.rules
          (candidates session, λ rule. flags rule ∙ ap (λ (w : Who). kind_triggers c.kind (triggers_of index w.tenant c.table rule) c) by) indexed origin progress made.stored made.proper within setting.rules (λ q e. e) r.candidates;
      left = r.left;
    }
