-- Promise: the text of rows: a line for each, with a comma between its values.
use Rattle.std.specs.Prelude.{◌≡◌, ℕ, Bool, true, not, ◌==◌, if◌then◌else◌, List, [], ◌∷◌, ◌++◌, length, map, take, flat_map}
use Rattle.std.specs.List.{list_all, join_with_byte}
use Rattle.sb_value.specs.declared.value.Value.{Value}
use Rattle.sb_value.specs.Literal.{value_text}
use Rattle.sb_rows.specs.Lines.{Lines}

abbrev pub comma : ℕ
comma = 44

abbrev pub newline : ℕ
newline = 10

-- the values of a row
abbrev pub row_text : List Value → List ℕ
row_text row = join_with_byte 44 (map value_text row)

-- each row's line behind the same bytes
abbrev pub started_rows : List ℕ → List (List Value) → List ℕ
started_rows start rows = flat_map (λ row. start ++ row_text row ++ newline ∷ []) rows

-- the rows' lines
abbrev pub rows_text : List (List Value) → List ℕ
rows_text rows = started_rows [] rows

-- the values of an open row, each with a comma behind it
abbrev pub open_text : List Value → List ℕ
open_text values = flat_map (λ v. value_text v ++ comma ∷ []) values

-- the ended rows and the open one
abbrev pub lines_text : Lines → List ℕ
lines_text l = rows_text l.rows ++ open_text l.begun

-- the text with its last line ended: a comma at its end becomes the newline
abbrev pub line_ended : List ℕ → List ℕ
line_ended [] = newline ∷ []
line_ended (b ∷ []) = if b == comma then newline ∷ [] else b ∷ newline ∷ []
line_ended (b ∷ c ∷ bytes) = b ∷ line_ended (c ∷ bytes)

-- the bytes of old still stand in front
abbrev pub IsInFront : List ℕ → List ℕ → Type 0
IsInFront old new = take (length old) new ≡ old

-- the bytes are of one line
abbrev pub has_no_newline : List ℕ → Bool
has_no_newline bytes = list_all (λ b. not (b == newline)) bytes

-- the text is this line with its newline, and then the rest
abbrev pub BeginsWithLine : List ℕ → List ℕ → List ℕ → Type 0
BeginsWithLine text line rest = (has_no_newline line ≡ true) × (text ≡ line ++ newline ∷ rest)

-- each row's text is of one line
abbrev pub HaveNoNewline : List (List Value) → Type 0
HaveNoNewline rows = list_all (λ row. has_no_newline (row_text row)) rows ≡ true
