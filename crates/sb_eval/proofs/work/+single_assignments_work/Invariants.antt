use Rattle.std.proofs.Common.{length}
use Rattle.sb_eval.proofs.work.+single_assignments_work.Given as goal

-- the assignments that are left
abbrev pub decreases-single_assignments_work : goal.decreases-single_assignments_work
decreases-single_assignments_work g l = length l.assignments.now
