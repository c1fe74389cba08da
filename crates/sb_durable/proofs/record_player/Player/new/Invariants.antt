use Rattle.std.proofs.Common.{◌≡◌, None}
use Rattle.std.specs.Prelude.{replicate}
use Rattle.sb_durable.proofs.record_player.Player.new.Given as goal

-- so many places, and no session is open
abbrev pub invariant-loop-place : goal.invariant-loop-place
invariant-loop-place g l = l.sessions.items ≡ replicate l._place None
