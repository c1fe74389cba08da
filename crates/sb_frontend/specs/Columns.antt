-- Promise: the columns of rows, as a client is told of them, in text.
use Rattle.std.specs.Prelude.{ℕ, true, false, if◌then◌else◌, List, [], ◌∷◌, ◌++◌, Some}
use Rattle.sb_value.specs.declared.value.ColumnType.{ColumnType}
use Rattle.sb_value.specs.declared.value.ColumnType.TheVariants.{Int, Text}
use Rattle.sb_postgres.specs.Answers.{Answered, DataRow, RowDescription, SeenColumn}
use Rattle.sb_frontend.specs.declared.describe.Heading.{Heading}
use Rattle.sb_frontend.specs.declared.form.Form.{Form}

-- the numbers of the types `int8` and `text`, and the bytes of their values: 65,535 where they vary
abbrev pub client_type : ColumnType → ℕ × ℕ
client_type Int = (20, 8)
client_type Text = (25, 65_535)

abbrev pub column : List ℕ → ColumnType → SeenColumn
column name of = (name, ((client_type of).0, ((client_type of).1, 0)))

abbrev pub column_of : Heading → SeenColumn
column_of h = column h.name.items h.of

-- the columns are told in front of the rows, or were told before
abbrev pub with_columns : Form
with_columns = record { described = true }

abbrev pub without_columns : Form
without_columns = record { described = false }

abbrev pub heads : Form → List SeenColumn → List Answered
heads form columns = if form.described then RowDescription columns ∷ [] else []

-- one row of one value
abbrev pub one_value : Form → List ℕ → ColumnType → List ℕ → List Answered
one_value form name of value = heads form (column name of ∷ []) ++ DataRow (Some value ∷ []) ∷ []
