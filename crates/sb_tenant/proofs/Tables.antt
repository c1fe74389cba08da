-- The table of a name, as it is seen.
use Rattle.std.proofs.Common.{◌≡◌, ℕ, Bool, true, false, cond, ◌==◌, List, [], ◌∷◌, map, find, Option, Some, None, option_map, refl, sym, ap, ◌∙◌}
use Rattle.sb_value.specs.declared.change.Change.{Change}
use Rattle.sb_value.specs.Name.{same_name}
use Rattle.std.proofs.lemmas.Option.{none-some, same_Some}
use Rattle.sb_value.specs.Table.{Entry, after, after_all, after_change, empty_table, table_at}
use Rattle.sb_tables.specs.Held.{Held, entry_of, entries, named, numbered}
use Rattle.sb_tables.specs.Stored.{Stored}
use Rattle.sb_tables.specs.Undo.{stored_after}
use Rattle.sb_process.specs.Made.{tables_after, tables_after_all, without_room}
use Rattle.sb_tenant.specs.declared.store.Store.{Store}
use Rattle.sb_tenant.specs.Represents.{Holds, all_changes}
use Rattle.sb_tenant.specs.State.{State, table_seen, tables_seen}

-- ---- tables with changes made are seen with them

entries-room : (tables : List Held) → entries (map without_room tables) ≡ entries tables
entries-room [] = refl
entries-room (h ∷ ts) = ap (λ (es : List Entry). entry_of h ∷ es) (entries-room ts)

entries-after : (c : Change) (tables : List Held) → entries (tables_after c tables) ≡ after c (entries tables)
entries-after c [] = refl
entries-after c (h ∷ ts) = λ i. one (h.id == c.table) i ∷ entries-after c ts i
  where
    one : (b : Bool) → entry_of (cond b (record h { stored = stored_after c h.stored }) h) ≡ cond b (record (entry_of h) { table = after_change c h.stored.table }) (entry_of h)
    one true = refl
    one false = refl

entries-after_all : (cs : List Change) (tables : List Held) → entries (tables_after_all cs tables) ≡ after_all cs (entries tables)
entries-after_all [] tables = refl
entries-after_all (c ∷ cs) tables = entries-after_all cs (tables_after c tables) ∙ ap (after_all cs) (entries-after c tables)

-- ---- look-ups

-- the entry of a name is that of the table of the name
find-entry : (tables : List Held) (name : List ℕ) → option_map (λ e. e.table) (find (λ e. same_name e.name name) (entries tables)) ≡ option_map (λ h. h.stored.table) (named tables name)
find-entry [] name = refl
find-entry (h ∷ ts) name = by (find-entry ts name) (same_name h.name name)
  where
    by : option_map (λ (e : Entry). e.table) (find (λ e. same_name e.name name) (entries ts)) ≡ option_map (λ (g : Held). g.stored.table) (named ts name) → (b : Bool) →
        option_map (λ (e : Entry). e.table) (cond b (Some (entry_of h)) (find (λ e. same_name e.name name) (entries ts))) ≡ option_map (λ (g : Held). g.stored.table) (cond b (Some h) (named ts name))
    by rest true = refl
    by rest false = rest

-- the tables in memory are those that are seen
pub entries_seen : (origin : List Held) (store : Store) (state : State) → Holds origin store state → entries store.database.tables ≡ tables_seen state
entries_seen origin store state h =
    sym (ap (after_all (all_changes state)) (sym h.committed) ∙ sym (entries-after_all (all_changes state) origin) ∙ sym (entries-room (tables_after_all (all_changes state) origin)) ∙ ap entries (sym h.made.made)
    ∙ entries-room store.database.tables)

module _ (origin : List Held) (store : Store) (state : State) (h : Holds origin store state) (name : List ℕ) where
  abbrev tables : List Held
  tables = store.database.tables

  seen_so : table_seen state name ≡ option_map (λ g. g.stored.table) (named tables name)
  seen_so =
      ap (λ (es : List Entry). option_map (λ e. e.table) (find (λ e. same_name e.name name) es)) (sym (entries_seen origin store state h))
      ∙ find-entry tables name

  mapped : (o : Option Held) → option_map (λ (s : Stored). s.table) (option_map (λ (g : Held). g.stored) o) ≡ option_map (λ (g : Held). g.stored.table) o
  mapped None = refl
  mapped (Some g) = refl

  -- the table that is found by its name
  pub found : (given : Option Stored) → given ≡ option_map (λ g. g.stored) (named tables name) → option_map (λ s. s.table) given ≡ table_seen state name
  found given is = ap (option_map (λ (s : Stored). s.table)) is ∙ mapped (named tables name) ∙ sym seen_so

-- the table of a number, as it is stored
pub table_found : (tables : List Held) (id : ℕ) (s : Stored) → option_map (λ (h : Held). h.stored) (numbered tables id) ≡ Some s → table_at (entries tables) id ≡ s.table
table_found [] id s e = absurd (none-some s e)
table_found (h ∷ tables) id s e = by (h.id == id) e (table_found tables id s)
  where
    by : (b : Bool) → option_map (λ (x : Held). x.stored) (cond b (Some h) (numbered tables id)) ≡ Some s → (option_map (λ (x : Held). x.stored) (numbered tables id) ≡ Some s → table_at (entries tables) id ≡ s.table)
        → cond b h.stored.table (table_at (entries tables) id) ≡ s.table
    by true p rest = ap (λ (x : Stored). x.table) (same_Some h.stored s p)
    by false p rest = rest p

pub table_missing : (tables : List Held) (id : ℕ) → option_map (λ (h : Held). h.stored) (numbered tables id) ≡ None → table_at (entries tables) id ≡ empty_table []
table_missing [] id e = refl
table_missing (h ∷ tables) id e = by (h.id == id) e (table_missing tables id)
  where
    by : (b : Bool) → option_map (λ (x : Held). x.stored) (cond b (Some h) (numbered tables id)) ≡ None → (option_map (λ (x : Held). x.stored) (numbered tables id) ≡ None → table_at (entries tables) id ≡ empty_table [])
        → cond b h.stored.table (table_at (entries tables) id) ≡ empty_table []
    by true p rest = absurd (none-some h.stored (sym p))
    by false p rest = rest p
