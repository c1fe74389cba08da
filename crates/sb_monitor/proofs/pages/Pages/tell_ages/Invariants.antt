use Rattle.sb_status.specs.TenantViews.{OnlyAges}
use Rattle.sb_monitor.proofs.pages.Pages.tell_ages.Given as goal

abbrev pub invariant-loop-number : goal.invariant-loop-number
invariant-loop-number g l = OnlyAges l.initial.sessions.items l.sessions.items
