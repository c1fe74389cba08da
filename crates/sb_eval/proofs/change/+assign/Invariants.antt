use Rattle.std.proofs.Common.{length}
use Rattle.sb_eval.proofs.change.+assign.Given as goal

-- the assignments that are left
abbrev pub decreases-assign : goal.decreases-assign
decreases-assign g l = length l.assignments.now
