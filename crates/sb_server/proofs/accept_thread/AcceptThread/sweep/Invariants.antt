use Rattle.std.proofs.Common.{◌≡◌}
use Rattle.sb_server.proofs.accept_thread.AcceptThread.sweep.Given as goal

abbrev pub invariant-loop-key : goal.invariant-loop-key
invariant-loop-key g l = l.self.lobby.stubs.items ≡ l.fn.self.lobby.stubs.items
