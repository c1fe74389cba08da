use Rattle.std.proofs.Common.{◌≡◌, length}
use Rattle.sb_server.proofs.server_metrics.ServerMetrics.new.Given as goal

-- one of each for each worker so far
abbrev pub invariant-loop-worker : goal.invariant-loop-worker
invariant-loop-worker l = length l.tallies.items ≡ l._worker
