use Rattle.std.proofs.Common.{ℕ}
use Rattle.sb_status.specs.StatisticsCache.{IsCacheOf}
use Rattle.sb_monitor.proofs.pages.Pages.all_numbers.Given as goal

abbrev pub invariant-loop-place : goal.invariant-loop-place
invariant-loop-place g l = (first : ℕ) → IsCacheOf first l.initial.cache → IsCacheOf first l.cache
