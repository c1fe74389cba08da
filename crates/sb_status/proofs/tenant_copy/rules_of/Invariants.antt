use Rattle.sb_status.specs.RuleLines.{AreRulesOf}
use Rattle.sb_status.proofs.tenant_copy.rules_of.Given as goal

-- the rules so far
abbrev pub invariant-loop-place : goal.invariant-loop-place
invariant-loop-place l = AreRulesOf l.catalog l.views.items
