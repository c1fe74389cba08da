use Rattle.sb_status.specs.TenantViews.{AreSessionsOf}
use Rattle.sb_status.proofs.tenant_copy.sessions_of.Given as goal

-- the sessions so far
abbrev pub invariant-loop-number : goal.invariant-loop-number
invariant-loop-number l = AreSessionsOf l.tenant l.number l.views.items
