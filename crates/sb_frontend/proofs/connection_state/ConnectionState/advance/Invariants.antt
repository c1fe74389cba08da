use Rattle.std.proofs.Common.{◌+◌, ◌≤◌, length}
use Rattle.sb_frontend.specs.Dialogues.{Answers}
use Rattle.sb_frontend.proofs.connection_state.ConnectionState.advance.Given as goal

-- so many steps took a byte each at least
abbrev pub invariant-loop-message : goal.invariant-loop-message
invariant-loop-message g l = Answers g.O.SessionSource.source l.initial.self l.self × (length l.self.waiting + l._message ≤ length l.initial.self.waiting)
