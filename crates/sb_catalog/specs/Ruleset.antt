-- Promise: a ruleset.
use Rattle.std.specs.Prelude.{ℕ, Bool, List}

-- a set of rules, as a flag for each, and the name that it is processed by
pub record Ruleset : Type 0 where
  pub name : List ℕ
  pub rules : List Bool

-- the ruleset that stands in a map under its name
abbrev pub set_of : List ℕ × List Bool → Ruleset
set_of e = record { name = e.0; rules = e.1 }
