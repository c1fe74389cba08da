-- A table that is looked up by its name, as the walk of a command sees it.
use Rattle.std.proofs.Common.{◌≡◌, ◌∙◌, ℕ, Bool, true, false, cond, List, [], ◌∷◌, find, Option, Some, None, option_map, unwrap_or, nat_eq, refl, sym, ap, subst}
use Rattle.std.proofs.lemmas.Option.{same_Some}
use Rattle.sb_value.specs.declared.value.ColumnDefinition.{ColumnDefinition}
use Rattle.sb_value.specs.Name.{same_name}
use Rattle.sb_value.specs.NameEquality.{same_name_is}
use Rattle.sb_value.specs.Table.{Table, Entry, table_at}
use Rattle.sb_check.specs.Lent.{table_seen, NumbersTellColumns}
use Rattle.sb_tables.specs.Held.{Held, entries, entry_of, named, numbered, no_rows, stored_at, NamesAgreeWithNumbers}
use Rattle.sb_tables.specs.Stored.{Stored}
use Rattle.sb_tenant.proofs.TableCommands.{find_entry}

has_its_name : (tables : List Held) (name : List ℕ) (h : Held) → named tables name ≡ Some h → h.name ≡ name
has_its_name [] name h e = absurd (cc e)
has_its_name (t ∷ tables) name h e = by (same_name t.name name) refl e (has_its_name tables name h)
  where
    by : (b : Bool) → same_name t.name name ≡ b → cond b (Some t) (named tables name) ≡ Some h → (named tables name ≡ Some h → h.name ≡ name) → h.name ≡ name
    by true p e rest = ap (λ (x : Held). x.name) (sym (same_Some t h e)) ∙ same_name_is t.name name p
    by false p e rest = rest e

-- ---- what a number tells

stored_table : (tables : List Held) (id : ℕ) → table_at (entries tables) id ≡ (stored_at tables id).table
stored_table [] id = refl
stored_table (h ∷ tables) id = by (nat_eq h.id id) (stored_table tables id)
  where
    by : (b : Bool) → table_at (entries tables) id ≡ (stored_at tables id).table
        → cond b h.stored.table (table_at (entries tables) id) ≡ (unwrap_or (option_map (λ (x : Held). x.stored) (cond b (Some h) (numbered tables id))) (no_rows [])).table
    by true e = refl
    by false e = e

told_by : (tables : List Held) (found : Option Held) (e : Entry) → ((h : Held) → found ≡ Some h → h.stored ≡ stored_at tables h.id) → option_map entry_of found ≡ Some e
    → (table_at (entries tables) e.id).columns ≡ e.table.columns
told_by tables None e agree is = absurd (cc is)
told_by tables (Some h) e agree is =
    subst (λ (x : Entry). (table_at (entries tables) x.id).columns ≡ x.table.columns) (same_Some (entry_of h) e is)
    (ap (λ (t : Table). t.columns) (stored_table tables h.id) ∙ ap (λ (s : Stored). s.table.columns) (sym (agree h refl)))

pub numbers_tell : (tables : List Held) → NamesAgreeWithNumbers tables → NumbersTellColumns (entries tables)
numbers_tell tables agree name e is = told_by tables (named tables name) e (agree name) (sym (find_entry tables name) ∙ is)

-- ---- a table that is there, or none

seen_by : (tables : List Entry) (name : List ℕ) (found : Option Held) (id : ℕ) (columns : List ColumnDefinition) → ((h : Held) → found ≡ Some h → h.name ≡ name)
    → ((e : Entry) → option_map entry_of found ≡ Some e → (table_at tables e.id).columns ≡ e.table.columns)
    → Some id ≡ option_map (λ (h : Held). h.id) found → columns ≡ (table_at tables id).columns → Some (id, name, columns) ≡ option_map table_seen (option_map entry_of found)
seen_by tables name None id columns named_so tells e c = absurd (cc e)
seen_by tables name (Some h) id columns named_so tells e c =
    let same : id ≡ h.id = same_Some id h.id e in
    λ i. Some (same i, sym (named_so h refl) i, (c ∙ ap (λ (n : ℕ). (table_at tables n).columns) same ∙ tells (entry_of h) refl) i)

pub seen_there : (tables : List Held) (name : List ℕ) (id : ℕ) (columns : List ColumnDefinition) → NamesAgreeWithNumbers tables
    → Some id ≡ option_map (λ (h : Held). h.id) (named tables name) → columns ≡ (table_at (entries tables) id).columns
    → Some (id, name, columns) ≡ option_map table_seen (find (λ (e : Entry). same_name e.name name) (entries tables))
seen_there tables name id columns agree e c =
    seen_by (entries tables) name (named tables name) id columns (has_its_name tables name) (λ t is. numbers_tell tables agree name t (find_entry tables name ∙ is)) e c
    ∙ ap (option_map table_seen) (sym (find_entry tables name))

nothing_by : (found : Option Held) → None ≡ option_map (λ (h : Held). h.id) found → None ≡ option_map table_seen (option_map entry_of found)
nothing_by None e = refl
nothing_by (Some h) e = absurd (cc e)

pub nothing_there : (tables : List Held) (name : List ℕ) → None ≡ option_map (λ (h : Held). h.id) (named tables name)
    → None ≡ option_map table_seen (find (λ (e : Entry). same_name e.name name) (entries tables))
nothing_there tables name e = nothing_by (named tables name) e ∙ ap (option_map table_seen) (sym (find_entry tables name))
