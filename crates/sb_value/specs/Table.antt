-- Promise: tables, and changes of them.
use Rattle.std.specs.Prelude.{Bool, ◌≡◌, ℕ, ◌+◌, not, ◌==◌, if◌then◌else◌, List, [], ◌∷◌, ◌++◌, map, filter, find, unwrap_or, Option, IsSome, IsNone, IsTrue, ◌<◌, option_map}
use Rattle.std.specs.List.{list_any}
use Rattle.sb_value.specs.declared.value.Value.{Value}
use Rattle.sb_value.specs.declared.value.ColumnDefinition.{ColumnDefinition}
use Rattle.sb_value.specs.declared.change.Change.{Change}
use Rattle.sb_value.specs.declared.change.ChangeKind.{ChangeKind}
use Rattle.sb_value.specs.declared.change.ChangeKind.TheVariants.{Inserted, Deleted, Updated}

-- rows in rising number, each with its number, and a number above them all
pub record Table : Type 0 where
  pub columns : List ColumnDefinition
  pub rows : List (ℕ × List Value)
  pub next : ℕ

abbrev pub empty_table : List ColumnDefinition → Table
empty_table columns = record { columns = columns; rows = []; next = 1 }

abbrev pub values : Table → List (List Value)
values table = map (λ r. r.1) table.rows

abbrev pub row_at : Table → ℕ → Option (List Value)
row_at table tuple = option_map (λ r. r.1) (find (λ r. r.0 == tuple) table.rows)

-- the row that a change gives, and the row that it takes away
abbrev pub new_row : Change → List Value
new_row c = unwrap_or c.new []

abbrev pub old_row : Change → List Value
old_row c = unwrap_or c.old []

-- the table after a change of it
abbrev pub after_kind : ChangeKind → Change → Table → Table
after_kind Inserted c table = record table { rows = table.rows ++ (table.next, new_row c) ∷ []; next = table.next + 1 }
after_kind Deleted c table = record table { rows = filter (λ r. not (r.0 == c.tuple)) table.rows }
after_kind Updated c table = record table { rows = map (λ r. if r.0 == c.tuple then (c.tuple, new_row c) else r) table.rows }

abbrev pub after_change : Change → Table → Table
after_change c table = after_kind c.kind c table

-- the change can be made of this table
abbrev pub fits_kind : ChangeKind → Change → Table → Type 0
fits_kind Inserted c table = (c.tuple ≡ table.next) × IsNone c.old × IsSome c.new
fits_kind Deleted c table = (row_at table c.tuple ≡ c.old) × IsSome c.old × IsNone c.new
fits_kind Updated c table = (row_at table c.tuple ≡ c.old) × IsSome c.old × IsSome c.new

-- a table of a tenant, in order of creation
pub record Entry : Type 0 where
  pub id : ℕ
  pub name : List ℕ
  pub table : Table

abbrev pub table_at : List Entry → ℕ → Table
table_at [] id = empty_table []
table_at (e ∷ es) id = if e.id == id then e.table else table_at es id

abbrev pub name_at : List Entry → ℕ → List ℕ
name_at [] id = []
name_at (e ∷ es) id = if e.id == id then e.name else name_at es id

-- the tables after one change, and after a list of changes
abbrev pub entry_after : Change → Entry → Entry
entry_after c e = if e.id == c.table then record e { table = after_change c e.table } else e

abbrev pub after : Change → List Entry → List Entry
after c tables = map (entry_after c) tables

abbrev pub after_all : List Change → List Entry → List Entry
after_all [] tables = tables
after_all (c ∷ cs) tables = after_all cs (after c tables)

abbrev pub has_table : List Entry → ℕ → Bool
has_table tables id = list_any (λ e. e.id == id) tables

-- each change can be made of the tables as the changes before it leave them
abbrev pub IsProper : List Entry → List Change → Type 0
IsProper tables [] = Unit {0}
IsProper tables (c ∷ cs) = IsTrue (has_table tables c.table) × fits_kind c.kind c (table_at tables c.table) × IsProper (after c tables) cs

-- the rows' numbers are below a number, and rise
abbrev pub AreBelow : ℕ → List (ℕ × List Value) → Type 0
AreBelow n [] = Unit {0}
AreBelow n (r ∷ rs) = (r.0 < n) × AreBelow n rs

abbrev pub AreRising : List (ℕ × List Value) → Type 0
AreRising [] = Unit {0}
AreRising (r ∷ []) = Unit {0}
AreRising (r ∷ s ∷ rs) = (r.0 < s.0) × AreRising (s ∷ rs)

abbrev pub IsTable : Table → Type 0
IsTable table = AreBelow table.next table.rows × AreRising table.rows
