-- Machine: a tenant's tables in memory, in order of creation.
use Rattle.std.specs.Prelude.{◌≡◌, ℕ, ◌-◌, Bool, not, ◌==◌, max, if◌then◌else◌, List, [], ◌∷◌, ◌++◌, map, filter, find, Option, Some, option_map, unwrap_or}
use Rattle.std.specs.List.{list_any}
use Rattle.sb_value.specs.declared.value.Value.{Value}
use Rattle.sb_value.specs.declared.value.ColumnDefinition.{ColumnDefinition}
use Rattle.sb_value.specs.Name.{same_name}
use Rattle.sb_value.specs.Table.{Entry, empty_table}
use Rattle.sb_tables.specs.Stored.{Stored, numbers_of, with_row, without_row, with_row_at}

-- a stored table with its number and its name
pub record Held : Type 0 where
  pub id : ℕ
  pub name : List ℕ
  pub stored : Stored

-- a table without its places and its room
abbrev pub entry_of : Held → Entry
entry_of h = record { id = h.id; name = h.name; table = h.stored.table }

-- the tables as lists of rows
abbrev pub entries : List Held → List Entry
entries tables = map entry_of tables

-- ---- look-ups

-- the table of that name
abbrev pub named : List Held → List ℕ → Option Held
named tables name = find (λ h. same_name h.name name) tables

-- the table of that number
abbrev pub numbered : List Held → ℕ → Option Held
numbered tables id = find (λ h. h.id == id) tables

-- whether a table has that name, or that number
abbrev pub has_name : List Held → List ℕ → Bool
has_name tables name = list_any (λ h. same_name h.name name) tables

abbrev pub has_number : List Held → ℕ → Bool
has_number tables id = list_any (λ h. h.id == id) tables

-- a table with these columns and no row
abbrev pub no_rows : List ColumnDefinition → Stored
no_rows columns = record { table = empty_table columns; places = []; room = 0 }

-- what is stored under a number
abbrev pub stored_at : List Held → ℕ → Stored
stored_at tables id = unwrap_or (option_map (λ h. h.stored) (numbered tables id)) (no_rows [])

-- what a name finds is what its number finds
abbrev pub NamesAgreeWithNumbers : List Held → Type 0
NamesAgreeWithNumbers tables = (name : List ℕ) (h : Held) → named tables name ≡ Some h → h.stored ≡ stored_at tables h.id

-- ---- changes

-- a new table is the last
abbrev pub with_table : List Held → ℕ → List ℕ → List ColumnDefinition → List Held
with_table tables id name columns = tables ++ record { id = id; name = name; stored = no_rows columns } ∷ []

-- the others keep their order
abbrev pub without_table : ℕ → List Held → List Held
without_table id tables = filter (λ h. not (h.id == id)) tables

-- a table that stores something else, if it has the number
abbrev pub stored_as : ℕ → Stored → Held → Held
stored_as id s h = if h.id == id then record h { stored = s } else h

-- something else is stored under a number, and all other tables stay
abbrev pub with_stored : ℕ → Stored → List Held → List Held
with_stored id s tables = map (stored_as id s) tables

-- with room for so many more rows at least
abbrev pub reserved : ℕ → Stored → Stored
reserved more s = record s { room = max s.room more }

-- with one more row, under the next number
abbrev pub inserted : List Value → Stored → Stored
inserted row s = record { table = with_row row s.table; places = s.places ++ s.table.next ∷ []; room = s.room - 1 }

-- without the row of a number
abbrev pub deleted : ℕ → Stored → Stored
deleted tuple s = record s { table = without_row tuple s.table }

-- with another row under a number
abbrev pub replaced : ℕ → List Value → Stored → Stored
replaced tuple row s = record s { table = with_row_at tuple row s.table }

-- without the places of deleted rows
abbrev pub settled : Stored → Stored
settled s = record s { places = numbers_of s.table.rows }
