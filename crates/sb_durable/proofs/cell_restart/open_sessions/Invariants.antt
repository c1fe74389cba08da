use Rattle.std.proofs.Common.{◌≡◌, filter, take}
use Rattle.sb_cell.specs.Tenants.{states}
use Rattle.sb_tenant.specs.State.{is_open, session_at}
use Rattle.sb_value.specs.Locks.{sessions}
use Rattle.sb_durable.proofs.cell_restart.open_sessions.Given as goal

abbrev pub invariant-loop-session : goal.invariant-loop-session
invariant-loop-session l = l.listed.items ≡ filter (λ s. is_open (session_at (states l.cell l.tenant) s)) (take l.session sessions)
