-- Promise: the rules of one table, as sets.
use Rattle.std.specs.Prelude.{Bool, List}

-- those that an insert triggers, a delete, an update of any column, and an update of each column
pub record TableSets : Type 0 where
  pub inserted : List Bool
  pub deleted : List Bool
  pub updated : List Bool
  pub columns : List (List Bool)
