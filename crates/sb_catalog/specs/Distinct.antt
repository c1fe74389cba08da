-- Machine: rulesets have names of their own.
use Rattle.std.specs.Prelude.{List, [], ◌∷◌, IsFalse}
use Rattle.std.specs.List.{list_any}
use Rattle.sb_value.specs.Name.{same_name}
use Rattle.sb_catalog.specs.Ruleset.{Ruleset}

-- no later ruleset has the name of an earlier one
abbrev pub AreDistinct : List Ruleset → Type 0
AreDistinct [] = Unit {0}
AreDistinct (s ∷ sets) = IsFalse (list_any (λ t. same_name s.name t.name) sets) × AreDistinct sets
