use Rattle.sb_status.specs.StatisticsCache.{IsCacheOf}
use Rattle.sb_monitor.proofs.status_port.StatusPort+Pages+H+A+T+E.serve.Given as goal

-- what is kept is of the tenants at their places
abbrev pub invariant-loop-place : goal.invariant-loop-place
invariant-loop-place g l = IsCacheOf l.self.pages.first_tenant l.cache
