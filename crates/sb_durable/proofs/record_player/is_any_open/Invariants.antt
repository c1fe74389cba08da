use Rattle.std.proofs.Common.{◌≡◌, ◌<◌, ◌+◌, ◌*◌, ℕ, Some, None}
use Rattle.std.specs.Prelude.{slice_get}
use Rattle.sb_durable.proofs.record_player.is_any_open.Given as goal

-- those before aren't open
abbrev pub invariant-loop-session : goal.invariant-loop-session
invariant-loop-session g l = (s : ℕ) → s < l.session → slice_get l.sessions (8 * l.tenant + s) ≡ Some None
