use Rattle.std.proofs.Common.{◌≡◌, ◌<◌, ℕ, false}
use Rattle.sb_tenant.specs.State.{is_open, session_at}
use Rattle.sb_tenant.specs.Tenant.{state}
use Rattle.sb_tenant.proofs.tenant.Tenant.is_any_open.Given as goal

-- no session up to here is open
abbrev pub invariant-loop-number : goal.invariant-loop-number
invariant-loop-number l = (s : ℕ) → s < l.number → is_open (session_at (state l.self) s) ≡ false
