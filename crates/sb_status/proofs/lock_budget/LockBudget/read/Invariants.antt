use Rattle.std.proofs.Common.{◌≡◌}
use Rattle.sb_status.proofs.lock_budget.LockBudget.read.Given as goal

-- what is read by is as it was
abbrev pub invariant-loop : goal.invariant-loop
invariant-loop g l = l.reading ≡ l.fn.reading
