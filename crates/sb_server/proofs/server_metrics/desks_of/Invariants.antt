use Rattle.std.proofs.Common.{◌≡◌, length}
use Rattle.sb_server.proofs.server_metrics.desks_of.Given as goal

-- one for each worker so far
abbrev pub invariant-loop-worker : goal.invariant-loop-worker
invariant-loop-worker l = length l.desks.items ≡ l._worker
