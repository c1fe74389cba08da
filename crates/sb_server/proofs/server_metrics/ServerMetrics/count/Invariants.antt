use Rattle.std.proofs.Common.{◌≡◌, length}
use Rattle.sb_server.proofs.server_metrics.ServerMetrics.count.Given as goal

-- where there is no place, nothing was counted
abbrev pub invariant-loop-counters : goal.invariant-loop-counters
invariant-loop-counters l = length l.fn.self.tallies.items ≡ 0 → l.sum ≡ 0
