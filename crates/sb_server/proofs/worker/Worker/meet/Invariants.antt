use Rattle.std.proofs.Common.{◌≡◌}
use Rattle.sb_server.proofs.worker.Worker.meet.Given as goal

abbrev pub invariant-loop-look : goal.invariant-loop-look
invariant-loop-look g l = (l.self.stubs.items ≡ l.fn.self.stubs.items) × (l.self.client_connections ≡ l.fn.self.client_connections)
