-- Changes made one after another.
use Rattle.std.proofs.Common.{◌≡◌, ◌∙◌, ℕ, ◌+◌, ◌<◌, Bool, true, false, ◌||◌, cond, nat_eq, List, [], ◌∷◌, map, length, Some, option_map, unwrap_or, refl, sym, ap, subst, arith}
use Rattle.sb_value.specs.declared.change.Change.{Change}
use Rattle.sb_value.specs.declared.change.ChangeKind.{ChangeKind}
use Rattle.sb_value.specs.declared.change.ChangeKind.TheVariants.{Inserted, Deleted, Updated}
use Rattle.sb_value.specs.declared.id.Who.{Who}
use Rattle.sb_value.specs.Table.{Entry, IsProper, after, after_change, after_kind, fits_kind, has_table, table_at}
use Rattle.sb_tables.specs.Stored.{Stored}
use Rattle.sb_tables.specs.Held.{Held, entries, numbered, has_number, stored_at, with_stored}
use Rattle.sb_process.specs.Made.{AreNumbered, EachBelow, NumbersBelow, tables_after, without_room}
use Rattle.sb_process.specs.Make.{Makes}
use Rattle.sb_process.specs.PreparedChanges.{CanApply, HavePlacesFor, made_of}
use Rattle.sb_process.proofs.Making.{entries-room, entries-after, room-with_stored, table-stored}
use Rattle.sb_process.proofs.Makes.{written_on}
use Rattle.sb_process.proofs.Settling.{number-with, numbered-with}

-- ---- one change

made_rows : (c : Change) (old new : List Held) → AreNumbered old → Makes c old new → entries new ≡ after c (entries old)
made_rows c old new n made =
    sym (entries-room new)
    ∙ ap (λ (ts : List Held). entries (map without_room ts)) made
    ∙ ap entries (room-with_stored c.table _ old ∙ written_on c old n)
    ∙ entries-room (tables_after c old)
    ∙ entries-after c old

pub stored-with_stored : (id : ℕ) (s : Stored) (tables : List Held) → has_number tables id ≡ true → stored_at (with_stored id s tables) id ≡ s
stored-with_stored id s [] there = absurd (cc)
stored-with_stored id s (h ∷ tables) there = by (nat_eq h.id id) refl there (stored-with_stored id s tables)
  where
    by : (b : Bool) → nat_eq h.id id ≡ b → (b || has_number tables id) ≡ true → (has_number tables id ≡ true → stored_at (with_stored id s tables) id ≡ s) →
        unwrap_or
        (option_map (λ (x : Held). x.stored) (cond (nat_eq (cond b (record h { stored = s }) h).id id) (Some (cond b (record h { stored = s }) h)) (numbered (with_stored id s tables) id)))
        (stored_at [] id)
        ≡ s
    by true p h' rest = ap (λ (b : Bool). unwrap_or (option_map (λ (x : Held). x.stored) (cond b (Some (record h { stored = s })) (numbered (with_stored id s tables) id))) (stored_at [] id)) p
    by false p h' rest = ap (λ (b : Bool). unwrap_or (option_map (λ (x : Held). x.stored) (cond b (Some h) (numbered (with_stored id s tables) id))) (stored_at [] id)) p ∙ rest h'

-- the change that comes first fits
pub first_fits : (tables : List Held) (who : Who) (id : ℕ) (c : Change) (cs : List Change) → CanApply tables who id (c ∷ cs) → fits_kind c.kind c (stored_at tables c.table).table
first_fits tables who id c cs can = subst (fits_kind c.kind c) (table-stored tables c.table) can.proper.1

-- the others can be made after it
pub others_can : (old new : List Held) (who : Who) (id : ℕ) (c : Change) (cs : List Change) → CanApply old who id (c ∷ cs) → Makes c old new → CanApply new who id cs
others_can old new who id c cs can made =
    let s : Stored = made_of c (stored_at old c.table) in
    record {
      numbered = subst AreNumbered (sym made) (numbered-with c.table s old can.numbered);
      there = ap (λ ts. has_number ts id) made ∙ number-with c.table s old id ∙ can.there;
      proper = subst (λ es. IsProper es cs) (sym (made_rows c old new can.numbered made)) can.proper.2;
      own = can.own.1;
      places = subst (HavePlacesFor cs)
          (sym (ap (λ ts. stored_at ts id) made
          ∙ (λ i. stored_at (with_stored (can.own.0.table i) (made_of c (stored_at old (can.own.0.table i))) old) id)
          ∙ stored-with_stored id (made_of c (stored_at old id)) old can.there)) can.places.1;
    }

-- ---- next numbers

pub next_below : (n id : ℕ) (tables : List Entry) → has_table tables id ≡ true → EachBelow n tables → (table_at tables id).next < n
next_below n id [] there b = absurd (cc)
next_below n id (e ∷ tables) there b = by (nat_eq e.id id) there (λ q. next_below n id tables q b.1)
  where
    by : (b : Bool) → (b || has_table tables id) ≡ true → (has_table tables id ≡ true → (table_at tables id).next < n) → (cond b e.table (table_at tables id)).next < n
    by true q rest = b.0
    by false q rest = rest q

below_after : (n : ℕ) (c : Change) (tables : List Entry) → EachBelow n tables → EachBelow (n + 1) (after c tables)
below_after n c [] b = tt
below_after n c (e ∷ tables) b = (by (nat_eq e.id c.table), below_after n c tables b.1)
  where
    of : (k : ChangeKind) → e.table.next < n → (after_kind k c e.table).next < n + 1
    of Inserted less = omega (arith, less)
    of Deleted less = omega (arith, less)
    of Updated less = omega (arith, less)

    by : (b : Bool) → (cond b (record e { table = after_change c e.table }) e).table.next < n + 1
    by true = of c.kind b.0
    by false = let q : e.table.next < n = b.0 in omega (arith, q)

pub below_one : (n : ℕ) (c : Change) (old new : List Held) → AreNumbered old → Makes c old new → NumbersBelow n old → NumbersBelow (n + 1) new
below_one n c old new numbered made b = subst (EachBelow (n + 1)) (sym (made_rows c old new numbered made)) (below_after n c (entries old) b)

pub none_left : (list : List Change) → length list ≡ 0 → list ≡ []
none_left [] e = refl
none_left (c ∷ cs) e = absurd (omega arith)
