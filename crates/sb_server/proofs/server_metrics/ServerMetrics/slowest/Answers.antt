use Rattle.std.proofs.Common.{rules}
use Rattle.std.proofs.lemmas.List.Sorted.{IsNonDecreasingBy-from_sort_by_key}
use Rattle.sb_server.specs.ServerMetrics.{quickness}
use Rattle.sb_server.proofs.server_metrics.ServerMetrics.slowest.Goals as goal

pub returns : goal.returns
returns g c = IsNonDecreasingBy-from_sort_by_key quickness _ c.sort_unstable_by_key.ensures.sorted (λ a r q k. search rules)
