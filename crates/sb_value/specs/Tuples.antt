-- Promise: a list of values that is cut into tuples.
use Rattle.std.specs.Prelude.{ℕ, ◌+◌, List, [], ◌∷◌, take, drop}
use Rattle.sb_value.specs.declared.value.Value.{Value}

-- so many values to each tuple
abbrev pub cut : List ℕ → List Value → List (List Value)
cut [] vs = []
cut (w ∷ ws) vs = take w vs ∷ cut ws (drop w vs)

-- the number of values of the tuples
abbrev pub total : List ℕ → ℕ
total [] = 0
total (w ∷ ws) = w + total ws

-- tuples, and the values of one more
pub record Opened : Type 0 where
  pub closed : List (List Value)
  pub begun : List Value
