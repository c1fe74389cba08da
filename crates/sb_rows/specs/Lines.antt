-- Promise: rows that have ended, and the values of a row that is open.
use Rattle.std.specs.Prelude.{List, [], ◌∷◌, ◌++◌}
use Rattle.sb_value.specs.declared.value.Value.{Value}

pub record Lines : Type 0 where
  pub rows : List (List Value)
  pub begun : List Value

-- no row, and none open
abbrev pub nothing : Lines
nothing = record { rows = []; begun = [] }

-- with one value more in the open row
abbrev pub with_value : Lines → Value → Lines
with_value l v = record { rows = l.rows; begun = l.begun ++ v ∷ [] }

-- with more values in the open row
abbrev pub with_values : Lines → List Value → Lines
with_values l vs = record { rows = l.rows; begun = l.begun ++ vs }

-- with the open row ended
abbrev pub with_row_ended : Lines → Lines
with_row_ended l = record { rows = l.rows ++ l.begun ∷ []; begun = [] }
