use Rattle.std.proofs.Common.{length}
use Rattle.sb_plan.proofs.reach.+expressions_reach.Given as goal

-- the expressions that are left
abbrev pub decreases-expressions_reach : goal.decreases-expressions_reach
decreases-expressions_reach l = length l.list.now
