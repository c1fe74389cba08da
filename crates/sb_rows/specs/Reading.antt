-- Promise: rows read back from their text, byte by byte. A comma or a newline within quotes is part of a text.
use Rattle.std.specs.Prelude.{◌≡◌, ℕ, Bool, true, false, not, ◌==◌, if◌then◌else◌, List, [], ◌∷◌, ◌++◌, length, Result, Ok, Err, pos}
use Rattle.std.specs.List.{fold}
use Rattle.sb_value.specs.declared.value.Value.{Value}
use Rattle.sb_value.specs.declared.value.Value.TheVariants.{Int}
use Rattle.sb_value.specs.declared.literal.LiteralError.{LiteralError}
use Rattle.sb_value.specs.Literal.{quote, literal_value}
use Rattle.sb_rows.specs.Lines.{Lines}
use Rattle.sb_rows.specs.RowText.{comma, newline, lines_text, has_no_newline, open_text, HaveNoNewline}

-- what is read so far: the rows, the values of the open row, the bytes of the value that is open, and whether they are in quotes
pub record Reading : Type 0 where
  pub rows : List (List Value)
  pub row : List Value
  pub literal : List ℕ
  pub quoted : Bool

-- rows and the values of an open row, with no value open
abbrev pub between : Lines → Reading
between l = record { rows = l.rows; row = l.begun; literal = []; quoted = false }

-- the value of a literal
abbrev pub value_or_zero : Result Value LiteralError → Value
value_or_zero (Ok v) = v
value_or_zero (Err e) = Int (pos 0)

-- the value that is open, if there is one
abbrev pub open_value : List ℕ → List Value
open_value [] = []
open_value (b ∷ bytes) = value_or_zero (literal_value (b ∷ bytes)) ∷ []

-- the values of the open row, with the one that is open
abbrev pub row_read : Reading → List Value
row_read r = r.row ++ open_value r.literal

-- with one byte more in the open value
abbrev pub longer : Reading → ℕ → Bool → Reading
longer r b quoted = record { rows = r.rows; row = r.row; literal = r.literal ++ b ∷ []; quoted = quoted }

-- outside of quotes a comma ends a value, and a newline a row
abbrev pub outside : Reading → ℕ → Reading
outside r b =
    if b == comma then record { rows = r.rows; row = row_read r; literal = []; quoted = false }
    else (if b == newline then record { rows = r.rows ++ row_read r ∷ []; row = []; literal = []; quoted = false }
    else longer r b (b == quote))

-- with one byte more
abbrev pub with_byte : Reading → ℕ → Reading
with_byte r b = if r.quoted then longer r b (not (b == quote)) else outside r b

-- what is read of a text
abbrev pub reading : List ℕ → Reading
reading text = fold with_byte (record { rows = []; row = []; literal = []; quoted = false }) text

-- the rows of a text, and the values of the row that is open at its end
abbrev pub lines_in : List ℕ → Lines
lines_in text = let r = reading text in record { rows = r.rows; begun = r.row }

-- the text is that of its rows and ends between values, each of its lines is one, and it has so many rows
pub record IsWhole (text : List ℕ) (count : ℕ) : Type 0 where
  pub ends : reading text ≡ between (lines_in text)
  pub bytes : text ≡ lines_text (lines_in text)
  pub lines : HaveNoNewline (lines_in text).rows
  pub last : has_no_newline (open_text (lines_in text).begun) ≡ true
  pub counted : count ≡ length (lines_in text).rows
