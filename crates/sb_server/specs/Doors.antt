-- Machine: how many connections a door still takes.
use Rattle.std.specs.Prelude.{◌<◌, ◌-◌, ⊤, ℕ, Option, Some, None}

-- some are left, or there is no end
abbrev pub StandsOpen : Option ℕ → Type 0
StandsOpen None = ⊤
StandsOpen (Some left) = 0 < left

abbrev pub one_less : Option ℕ → Option ℕ
one_less None = None
one_less (Some left) = Some (left - 1)
