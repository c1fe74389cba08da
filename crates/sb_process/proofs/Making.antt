-- Tables with changes made.
use Rattle.std.proofs.lemmas.Bool.{or_parts}
use Rattle.std.proofs.Common.{◌≡◌, ◌∙◌, ℕ, Bool, true, false, ◌||◌, cond, nat_eq, List, [], ◌∷◌, ◌++◌, map, Some, option_map, unwrap_or, refl, sym, ap, subst, eqb-true}
use Rattle.sb_value.specs.declared.change.Change.{Change}
use Rattle.sb_value.specs.Table.{Entry, IsProper, fits_kind, after, after_all, after_change, table_at, has_table}
use Rattle.sb_tables.specs.Stored.{Stored, IsStored}
use Rattle.sb_tables.specs.Held.{Held, entries, entry_of, stored_as, numbered, has_number, stored_at, with_stored}
use Rattle.sb_tables.specs.Undo.{stored_after}
use Rattle.sb_tables.specs.Laws.{ChangesKeepPlaces}
use Rattle.sb_process.specs.Made.{AreNumbered, AreStored, AreMade, held_after, tables_after, tables_after_all, without_room}

-- ---- numbers

pub number-after : (c : Change) (tables : List Held) (id : ℕ) → has_number (tables_after c tables) id ≡ has_number tables id
number-after c [] id = refl
number-after c (h ∷ tables) id = λ i. by (nat_eq h.id c.table) i || number-after c tables id i
  where
    by : (b : Bool) → nat_eq (cond b (record h { stored = stored_after c h.stored }) h).id id ≡ nat_eq h.id id
    by true = refl
    by false = refl

pub number-after_all : (cs : List Change) (tables : List Held) (id : ℕ) → has_number (tables_after_all cs tables) id ≡ has_number tables id
number-after_all [] tables id = refl
number-after_all (c ∷ cs) tables id = number-after_all cs (tables_after c tables) id ∙ number-after c tables id

pub number-room : (tables : List Held) (id : ℕ) → has_number (map without_room tables) id ≡ has_number tables id
number-room [] id = refl
number-room (h ∷ tables) id = ap (λ (b : Bool). nat_eq h.id id || b) (number-room tables id)

pub number-entries : (tables : List Held) (id : ℕ) → has_table (entries tables) id ≡ has_number tables id
number-entries [] id = refl
number-entries (h ∷ tables) id = ap (λ (b : Bool). nat_eq h.id id || b) (number-entries tables id)

pub numbered-after : (c : Change) (tables : List Held) → AreNumbered tables → AreNumbered (tables_after c tables)
numbered-after c [] h = tt
numbered-after c (t ∷ tables) h = (number-after c tables (held_after c t).id ∙ ap (has_number tables) (by (nat_eq t.id c.table)) ∙ h.0, numbered-after c tables h.1)
  where
    by : (b : Bool) → (cond b (record t { stored = stored_after c t.stored }) t).id ≡ t.id
    by true = refl
    by false = refl

-- ---- as lists of rows

entry_by : (c : Change) (h : Held) (b : Bool) → entry_of (cond b (record h { stored = stored_after c h.stored }) h) ≡ cond b (record (entry_of h) { table = after_change c h.stored.table }) (entry_of h)
entry_by c h true = refl
entry_by c h false = refl

pub entries-after : (c : Change) (tables : List Held) → entries (tables_after c tables) ≡ after c (entries tables)
entries-after c [] = refl
entries-after c (h ∷ tables) = λ i. entry_by c h (nat_eq h.id c.table) i ∷ entries-after c tables i

pub entries-after_all : (cs : List Change) (tables : List Held) → entries (tables_after_all cs tables) ≡ after_all cs (entries tables)
entries-after_all [] tables = refl
entries-after_all (c ∷ cs) tables = entries-after_all cs (tables_after c tables) ∙ ap (after_all cs) (entries-after c tables)

pub entries-room : (tables : List Held) → entries (map without_room tables) ≡ entries tables
entries-room [] = refl
entries-room (h ∷ tables) = λ i. record { id = h.id; name = h.name; table = h.stored.table } ∷ entries-room tables i

-- the tables are seen with the changes
pub entries-made : (origin : List Held) (cs : List Change) (tables : List Held) → AreMade origin cs tables → entries tables ≡ after_all cs (entries origin)
entries-made origin cs tables m = sym (entries-room tables) ∙ ap entries m.made ∙ entries-room (tables_after_all cs origin) ∙ entries-after_all cs origin

-- ---- what is stored under a number

pub stored-room : (tables : List Held) (id : ℕ) → stored_at (map without_room tables) id ≡ record (stored_at tables id) { room = 0 }
stored-room [] id = refl
stored-room (h ∷ tables) id = by (nat_eq h.id id) (stored-room tables id)
  where
    by : (b : Bool) → stored_at (map without_room tables) id ≡ record (stored_at tables id) { room = 0 } →
        unwrap_or (option_map (λ (x : Held). x.stored) (cond b (Some (without_room h)) (numbered (map without_room tables) id))) (stored_at [] id)
        ≡ record (unwrap_or (option_map (λ (x : Held). x.stored) (cond b (Some h) (numbered tables id))) (stored_at [] id)) { room = 0 }
    by true e = refl
    by false e = e

pub table-stored : (tables : List Held) (id : ℕ) → table_at (entries tables) id ≡ (stored_at tables id).table
table-stored [] id = refl
table-stored (h ∷ tables) id = by (nat_eq h.id id) (table-stored tables id)
  where
    by : (b : Bool) → table_at (entries tables) id ≡ (stored_at tables id).table →
        cond b h.stored.table (table_at (entries tables) id) ≡ (unwrap_or (option_map (λ (x : Held). x.stored) (cond b (Some h) (numbered tables id))) (stored_at [] id)).table
    by true e = refl
    by false e = e

pub stored-after : (c : Change) (tables : List Held) → has_number tables c.table ≡ true → stored_at (tables_after c tables) c.table ≡ stored_after c (stored_at tables c.table)
stored-after c [] there = absurd (cc)
stored-after c (h ∷ tables) there = by (nat_eq h.id c.table) refl there (stored-after c tables)
  where
    by : (b : Bool) → nat_eq h.id c.table ≡ b → (b || has_number tables c.table) ≡ true →
        (has_number tables c.table ≡ true → stored_at (tables_after c tables) c.table ≡ stored_after c (stored_at tables c.table)) →
        unwrap_or
        (option_map (λ (x : Held). x.stored)
        (cond (nat_eq (cond b (record h { stored = stored_after c h.stored }) h).id c.table) (Some (cond b (record h { stored = stored_after c h.stored }) h)) (numbered (tables_after c tables) c.table)))
        (stored_at [] c.table)
        ≡ stored_after c (unwrap_or (option_map (λ (x : Held). x.stored) (cond b (Some h) (numbered tables c.table))) (stored_at [] c.table))
    by true p h' rest =
        ap (λ (b : Bool).
        unwrap_or (option_map (λ (x : Held). x.stored) (cond b (Some (record h { stored = stored_after c h.stored })) (numbered (tables_after c tables) c.table))) (stored_at [] c.table))
        p
    by false p h' rest =
        ap (λ (b : Bool). unwrap_or (option_map (λ (x : Held). x.stored) (cond b (Some h) (numbered (tables_after c tables) c.table))) (stored_at [] c.table)) p ∙ rest h'

-- ---- one change undone

-- a number that no table has is written nowhere
none-written : (id : ℕ) (s : Stored) (c : Change) (tables : List Held) → c.table ≡ id → has_number tables id ≡ false → with_stored id s (map without_room (tables_after c tables)) ≡ map without_room tables
none-written id s c [] e none = refl
none-written id s c (h ∷ tables) e none = λ i. head i ∷ none-written id s c tables e (or_parts (nat_eq h.id id) (has_number tables id) none).1 i
  where
    other : nat_eq h.id id ≡ false
    other = (or_parts (nat_eq h.id id) (has_number tables id) none).0

    same : held_after c h ≡ h
    same = ap (λ (b : Bool). cond b (record h { stored = stored_after c h.stored }) h) (ap (nat_eq h.id) e ∙ other)

    head : stored_as id s (without_room (held_after c h)) ≡ without_room h
    head = ap (λ (x : Held). stored_as id s (without_room x)) same ∙ ap (λ (b : Bool). cond b (record (without_room h) { stored = s }) (without_room h)) other

-- what was stored before the change is written back
pub written-back : (c : Change) (tables : List Held) → AreNumbered tables → with_stored c.table (record (stored_at tables c.table) { room = 0 }) (map without_room (tables_after c tables)) ≡ map without_room tables
written-back c [] n = refl
written-back c (h ∷ tables) n = by (nat_eq h.id c.table) refl (written-back c tables n.1)
  where
    by : (b : Bool) → nat_eq h.id c.table ≡ b → with_stored c.table (record (stored_at tables c.table) { room = 0 }) (map without_room (tables_after c tables)) ≡ map without_room tables →
        with_stored c.table (record (unwrap_or (option_map (λ (x : Held). x.stored) (cond b (Some h) (numbered tables c.table))) (stored_at [] c.table)) { room = 0 })
        (without_room (cond b (record h { stored = stored_after c h.stored }) h) ∷ map without_room (tables_after c tables))
        ≡ without_room h ∷ map without_room tables
    by true p rest =
        let alone : has_number tables c.table ≡ false = ap (has_number tables) (sym (eqb-true h.id c.table p)) ∙ n.0 in
        λ i. (ap (λ (b : Bool). cond b (without_room h) (without_room (record h { stored = stored_after c h.stored }))) p) i
        ∷ none-written c.table (record h.stored { room = 0 }) c tables refl alone i
    by false p rest =
        λ i. (ap (λ (b : Bool). cond b (record (without_room h) { stored = record (stored_at tables c.table) { room = 0 } }) (without_room h)) p) i ∷ rest i

pub room-with_stored : (id : ℕ) (s : Stored) (tables : List Held) → map without_room (with_stored id s tables) ≡ with_stored id (record s { room = 0 }) (map without_room tables)
room-with_stored id s [] = refl
room-with_stored id s (h ∷ tables) = λ i. by (nat_eq h.id id) i ∷ room-with_stored id s tables i
  where
    by : (b : Bool) → without_room (cond b (record h { stored = s }) h) ≡ cond b (record (without_room h) { stored = record s { room = 0 } }) (without_room h)
    by true = refl
    by false = refl

-- ---- soundness

pub stored-of : (tables : List Held) (id : ℕ) → AreStored tables → has_number tables id ≡ true → IsStored (stored_at tables id)
stored-of [] id s there = absurd (cc)
stored-of (h ∷ tables) id s there = by (nat_eq h.id id) there (stored-of tables id s.1)
  where
    by : (b : Bool) → (b || has_number tables id) ≡ true → (has_number tables id ≡ true → IsStored (stored_at tables id)) →
        IsStored (unwrap_or (option_map (λ (x : Held). x.stored) (cond b (Some h) (numbered tables id))) (stored_at [] id))
    by true h' rest = s.0
    by false h' rest = rest h'

-- a change that can be made of a table leaves all of them sound
all-stored : (law : ChangesKeepPlaces) (c : Change) (tables : List Held) → AreNumbered tables → AreStored tables → fits_kind c.kind c (stored_at tables c.table).table → AreStored (tables_after c tables)
all-stored law c [] n s f = tt
all-stored law c (h ∷ tables) n s f = by (nat_eq h.id c.table) refl f (all-stored law c tables n.1 s.1)
  where
    none : (ts : List Held) → has_number ts c.table ≡ false → AreStored ts → AreStored (tables_after c ts)
    none [] e q = tt
    none (t ∷ ts) e q = (
      subst (λ (b : Bool). IsStored (cond b (record t { stored = stored_after c t.stored }) t).stored) (sym (or_parts (nat_eq t.id c.table) (has_number ts c.table) e).0) q.0,
      none ts (or_parts (nat_eq t.id c.table) (has_number ts c.table) e).1 q.1,
    )

    by : (b : Bool) → nat_eq h.id c.table ≡ b → fits_kind c.kind c (unwrap_or (option_map (λ (x : Held). x.stored) (cond b (Some h) (numbered tables c.table))) (stored_at [] c.table)).table →
        (fits_kind c.kind c (stored_at tables c.table).table → AreStored (tables_after c tables)) → IsStored (cond b (record h { stored = stored_after c h.stored }) h).stored × AreStored (tables_after c tables)
    by true p fits rest = ((law c h.stored s.0 fits).0, none tables (ap (has_number tables) (sym (eqb-true h.id c.table p)) ∙ n.0) s.1)
    by false p fits rest = (s.0, rest fits)

-- ---- the last change

pub after_all-push : (cs : List Change) (c : Change) (tables : List Held) → tables_after_all (cs ++ c ∷ []) tables ≡ tables_after c (tables_after_all cs tables)
after_all-push [] c tables = refl
after_all-push (d ∷ cs) c tables = after_all-push cs c (tables_after d tables)

pub proper-push : (cs : List Change) (c : Change) (ts : List Entry) → IsProper ts (cs ++ c ∷ []) → IsProper ts cs × (has_table (after_all cs ts) c.table ≡ true) × fits_kind c.kind c (table_at (after_all cs ts) c.table)
proper-push [] c ts h = (tt, h.0, h.1)
proper-push (d ∷ cs) c ts h = let rest = proper-push cs c (after d ts) h.2 in ((h.0, h.1, rest.0), rest.1, rest.2)

-- with the changes of a proper list the tables stay sound and numbered
pub sound-after_all : (law : ChangesKeepPlaces) (cs : List Change) (tables : List Held) → AreNumbered tables → AreStored tables → IsProper (entries tables) cs →
    AreNumbered (tables_after_all cs tables) × AreStored (tables_after_all cs tables)
sound-after_all law [] tables n s h = (n, s)
sound-after_all law (c ∷ cs) tables n s h =
    sound-after_all law cs (tables_after c tables) (numbered-after c tables n)
    (all-stored law c tables n s (subst (fits_kind c.kind c) (table-stored tables c.table) h.1))
    (subst (λ es. IsProper es cs) (sym (entries-after c tables)) h.2)
