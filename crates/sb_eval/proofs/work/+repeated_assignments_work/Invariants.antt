use Rattle.std.proofs.Common.{length}
use Rattle.sb_eval.proofs.work.+repeated_assignments_work.Given as goal

-- the assignments that are left
abbrev pub decreases-repeated_assignments_work : goal.decreases-repeated_assignments_work
decreases-repeated_assignments_work g l = length l.assignments.now
