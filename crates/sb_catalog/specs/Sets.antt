-- Promise: rulesets in order of creation.
use Rattle.std.specs.Prelude.{ℕ, Bool, not, false, nat_le, if◌then◌else◌, List, [], ◌∷◌, ◌++◌, length, map, filter, find, Option, Some, None, option_map, slice_set}
use Rattle.std.specs.List.{list_any}
use Rattle.sb_value.specs.Flags.{no_flags}
use Rattle.sb_value.specs.Limits.{rule_limit}
use Rattle.sb_value.specs.Name.{same_name}
use Rattle.sb_value.specs.declared.refusal.Refusal.{Refusal}
use Rattle.sb_value.specs.declared.refusal.Refusal.TheVariants.{RulesetExists, TooManyRulesets}
use Rattle.sb_catalog.specs.Ruleset.{Ruleset}

abbrev pub has_name : List Ruleset → List ℕ → Bool
has_name sets name = list_any (λ s. same_name s.name name) sets

-- why a ruleset of that name is not made, the name first
abbrev pub create_refusal : List Ruleset → List ℕ → Option Refusal
create_refusal sets name =
    if has_name sets name then Some RulesetExists else (if nat_le 16 (length sets) then Some TooManyRulesets else None)

-- a new ruleset is empty and the last
abbrev pub created : List Ruleset → List ℕ → List Ruleset
created sets name = sets ++ record { name = name; rules = no_flags rule_limit } ∷ []

abbrev pub without_set : List Ruleset → List ℕ → List Ruleset
without_set sets name = filter (λ s. not (same_name s.name name)) sets

abbrev pub changed_if : (List Bool → List Bool) → List ℕ → Ruleset → Ruleset
changed_if change name s = if same_name s.name name then record s { rules = change s.rules } else s

-- the rules of the named ruleset are changed, and no other's
abbrev pub changed : (List Bool → List Bool) → List Ruleset → List ℕ → List Ruleset
changed change sets name = map (changed_if change name) sets

abbrev pub lacking : ℕ → Ruleset → Ruleset
lacking rule s = record s { rules = slice_set s.rules rule false }

-- the rule is in no ruleset
abbrev pub without_rule : List Ruleset → ℕ → List Ruleset
without_rule sets rule = map (lacking rule) sets

abbrev pub members_of : List Ruleset → List ℕ → Option (List Bool)
members_of sets name = option_map (λ s. s.rules) (find (λ s. same_name s.name name) sets)
