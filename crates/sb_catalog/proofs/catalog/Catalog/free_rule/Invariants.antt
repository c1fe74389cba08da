use Rattle.std.proofs.Common.{◌≡◌, ◌<◌, ◌-◌, ℕ, true, map}
use Rattle.sb_value.specs.Limits.{rule_limit}
use Rattle.sb_catalog.specs.declared.rule.Rule.{Rule}
use Rattle.sb_catalog.proofs.LeastFree.{has}
use Rattle.sb_catalog.proofs.catalog.Catalog.free_rule.Given as goal

-- all smaller numbers have a rule
abbrev pub invariant-loop-number : goal.invariant-loop-number
invariant-loop-number l = (l.number < rule_limit) × ((k : ℕ) → k < l.number → has (map (λ (r : Rule). r.id) l.self) k ≡ true)

abbrev pub decreases-loop-number : goal.decreases-loop-number
decreases-loop-number l = rule_limit - l.number
