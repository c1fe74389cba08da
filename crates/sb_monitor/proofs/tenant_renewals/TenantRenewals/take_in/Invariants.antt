use Rattle.std.proofs.Common.{◌≡◌}
use Rattle.sb_monitor.proofs.tenant_renewals.TenantRenewals.take_in.Given as goal

-- where there is no memory both stay as they are
abbrev pub invariant-loop-trial : goal.invariant-loop-trial
invariant-loop-trial g l = (l.held.items ≡ l.initial.held.items) × (l.stubs.items ≡ l.initial.stubs.items)
