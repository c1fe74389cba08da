use Rattle.std.proofs.Common.{length}
use Rattle.sb_eval.proofs.statement.+operands_cost.Given as goal

-- the assignments that are left
abbrev pub decreases-operands_cost : goal.decreases-operands_cost
decreases-operands_cost g l = length l.assignments.now
