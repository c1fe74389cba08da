use Rattle.sb_tenant.specs.Compared.{AreSameFrom}
use Rattle.sb_tenant.proofs.alike.same_definitions.same_rulesets.Given as goal

-- where the rulesets from here on are the same, all are
abbrev pub invariant-loop-place : goal.invariant-loop-place
invariant-loop-place l = AreSameFrom l.one l.other l.place → AreSameFrom l.one l.other 0
