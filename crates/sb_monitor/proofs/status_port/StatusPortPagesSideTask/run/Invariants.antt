use Rattle.sb_status.specs.StatisticsCache.{IsCacheOf}
use Rattle.sb_monitor.proofs.status_port.StatusPortPagesSideTask.run.Given as goal

-- what is kept is of the tenants at their places
abbrev pub invariant-loop-turn : goal.invariant-loop-turn
invariant-loop-turn g l = IsCacheOf l.self.pages.first_tenant l.cache
