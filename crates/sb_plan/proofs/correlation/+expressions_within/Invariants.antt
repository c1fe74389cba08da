use Rattle.std.proofs.Common.{length}
use Rattle.sb_plan.proofs.correlation.+expressions_within.Given as goal

-- the expressions that are left
abbrev pub decreases-expressions_within : goal.decreases-expressions_within
decreases-expressions_within l = length l.list.now
