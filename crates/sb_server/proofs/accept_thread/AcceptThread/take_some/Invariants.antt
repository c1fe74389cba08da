use Rattle.std.proofs.Common.{◌≡◌}
use Rattle.sb_server.proofs.accept_thread.AcceptThread.take_some.Given as goal

abbrev pub invariant-loop-taken : goal.invariant-loop-taken
invariant-loop-taken g l = l.self.lobby.stubs.items ≡ l.fn.self.lobby.stubs.items
