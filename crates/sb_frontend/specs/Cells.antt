-- Machine: reading the values of a row's text from left to right.
use Rattle.std.specs.Prelude.{◌≡◌, ◌≤◌, ℕ, Bool, true, false, ◌==◌, if◌then◌else◌, List, [], ◌∷◌, ◌++◌, length, map, take, drop, Option, Some, None}
use Rattle.std.specs.List.{prefix_len}
use Rattle.sb_value.specs.declared.value.Value.{Value}
use Rattle.sb_rows.specs.RowText.{row_text, rows_text}
use Rattle.sb_postgres.specs.Answers.{Answered}
use Rattle.sb_frontend.specs.Outputs.{written}
use Rattle.sb_frontend.specs.Rows.{RowsAreInRange, data_row}

-- a byte before a text and what stands behind it
abbrev pub with_byte : ℕ → List ℕ × List ℕ → List ℕ × List ℕ
with_byte b p = (b ∷ p.0, p.1)

-- behind the opening quote: the text with each doubled quote once, and what stands behind the closing one
abbrev pub unquoted : List ℕ → List ℕ × List ℕ
unquoted [] = ([], [])
unquoted (b ∷ []) = if b == 39 then ([], []) else (b ∷ [], [])
unquoted (b ∷ c ∷ bs) = if b == 39 then (if c == 39 then with_byte 39 (unquoted bs) else ([], c ∷ bs)) else with_byte b (unquoted (c ∷ bs))

-- neither comma nor newline
abbrev pub is_in_number : ℕ → Bool
is_in_number b = if b == 44 then false else (if b == 10 then false else true)

abbrev pub number_len : List ℕ → ℕ
number_len text = prefix_len is_in_number text

-- the first value's text, and what stands behind it
abbrev pub cell : List ℕ → List ℕ × List ℕ
cell [] = (take (number_len []) [], drop (number_len []) [])
cell (b ∷ bs) = if b == 39 then unquoted bs else (take (number_len (b ∷ bs)) (b ∷ bs), drop (number_len (b ∷ bs)) (b ∷ bs))

-- whether a comma follows, and what stands behind it or behind what follows in its place
abbrev pub separated : List ℕ → Option (Bool × List ℕ)
separated [] = None
separated (b ∷ bs) = Some (b == 44, bs)

abbrev pub begins_line : List ℕ → Bool
begins_line [] = false
begins_line (b ∷ bs) = b == 10

-- Messages are written of some bytes. Of rows whose text these are, and of which there are so many at least, they are one for each of the first ones,
-- and the text of the others is left.
abbrev pub WritesTo : ℕ → ℕ → List ℕ → List ℕ → List ℕ → List ℕ → Type 0
WritesTo most count text left old new =
    (ms : List Answered) × (new ≡ old ++ written ms)
    × ((rows : List (List Value)) → RowsAreInRange rows → text ≡ rows_text rows → most ≤ length rows → (left ≡ rows_text (drop count rows)) × (ms ≡ map data_row (take count rows)))

-- the text begins with the line of a row
abbrev pub BeginsWithRow : List ℕ → List Value → List ℕ → Type 0
BeginsWithRow text row rest = text ≡ row_text row ++ 10 ∷ rest
