-- Machine: a table in memory.
use Rattle.std.specs.Prelude.{◌≡◌, ℕ, ◌+◌, ◌==◌, nat_lt, not, if◌then◌else◌, List, [], ◌∷◌, ◌++◌, map, filter, IsTrue}
use Rattle.std.specs.List.{list_any}
use Rattle.sb_value.specs.declared.value.Value.{Value}
use Rattle.sb_value.specs.Table.{Table, IsTable}

-- a table, the numbers that have a place in memory (those of its rows, and of the rows that were deleted since it was
-- settled), and for how many more rows there is room
pub record Stored : Type 0 where
  pub table : Table
  pub places : List ℕ
  pub room : ℕ

abbrev pub numbers_of : List (ℕ × List Value) → List ℕ
numbers_of rows = map (λ r. r.0) rows

-- each of the numbers is among the places
abbrev pub HavePlaces : List ℕ → List ℕ → Type 0
HavePlaces [] places = Unit {0}
HavePlaces (n ∷ ns) places = IsTrue (list_any (λ m. m == n) places) × HavePlaces ns places

-- the numbers rise and are below the next one, and each row has a place
abbrev pub IsStored : Stored → Type 0
IsStored s = IsTable s.table × HavePlaces (numbers_of s.table.rows) s.places

-- the table with one more row, under its next number
abbrev pub with_row : List Value → Table → Table
with_row row table = record table { rows = table.rows ++ (table.next, row) ∷ []; next = table.next + 1 }

-- the table without the row of a number
abbrev pub without_row : ℕ → Table → Table
without_row tuple table = record table { rows = filter (λ r. not (r.0 == tuple)) table.rows }

-- the table with another row under a number
abbrev pub with_row_at : ℕ → List Value → Table → Table
with_row_at tuple row table = record table { rows = map (λ r. if r.0 == tuple then (tuple, row) else r) table.rows }

-- the rows with a row under a number: in place of the one that is there, or where the number stands among theirs
abbrev pub put : ℕ → List Value → List (ℕ × List Value) → List (ℕ × List Value)
put tuple row [] = (tuple, row) ∷ []
put tuple row (r ∷ rs) = if r.0 == tuple then (tuple, row) ∷ rs else (if nat_lt r.0 tuple then r ∷ put tuple row rs else (tuple, row) ∷ r ∷ rs)

abbrev pub with_row_put : ℕ → List Value → Table → Table
with_row_put tuple row table = record table { rows = put tuple row table.rows }

-- what is left of a table without its last row
abbrev pub IsWithoutLast : Table → Table → Type 0
IsWithoutLast whole left = (before : Table) (row : List Value) → with_row row before ≡ whole → left ≡ before
