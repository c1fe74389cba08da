-- Promise: the rows of a reply as messages.
use Rattle.std.specs.Prelude.{◌≡◌, ℕ, List, map, Option, Some}
use Rattle.std.specs.Fmt.{signed_decimal}
use Rattle.std.specs.List.{AllByRecursion}
use Rattle.sb_value.specs.Laws.{IsInRange}
use Rattle.sb_value.specs.declared.value.Value.{Value}
use Rattle.sb_value.specs.declared.value.Value.TheVariants.{Int, Text}
use Rattle.sb_postgres.specs.Answers.{Answered, DataRow}

-- a value as text: an integer in decimal, a text as it is
abbrev pub wire_text : Value → List ℕ
wire_text (Int z) = signed_decimal z
wire_text (Text bytes) = bytes

abbrev pub some_text : Value → Option (List ℕ)
some_text v = Some (wire_text v)

abbrev pub data_row : List Value → Answered
data_row row = DataRow (map some_text row)

-- the integers have 64 bits, as those of replies do
abbrev pub AreInRange : List Value → Type 0
AreInRange row = AllByRecursion IsInRange row

abbrev pub RowsAreInRange : List (List Value) → Type 0
RowsAreInRange rows = AllByRecursion AreInRange rows

-- some messages are a message for each row
abbrev pub RowsTold : List (List Value) → List Answered → Type 0
RowsTold rows ms = RowsAreInRange rows → ms ≡ map data_row rows
