use Rattle.std.proofs.Common.{◌≡◌}
use Rattle.sb_tenant.specs.Tenant.{state}
use Rattle.sb_tenant.proofs.Resting.{busy_from}
use Rattle.sb_tenant.proofs.alike.is_busy.Given as goal

-- no session up to here has a transaction
abbrev pub invariant-loop-number : goal.invariant-loop-number
invariant-loop-number l = busy_from (state l.tenant) 0 ≡ busy_from (state l.tenant) l.number
