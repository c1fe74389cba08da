use Rattle.std.proofs.Common.{◌≡◌}
use Rattle.sb_server.proofs.worker.Worker.note_wanted.Given as goal

abbrev pub invariant-loop-tenant : goal.invariant-loop-tenant
invariant-loop-tenant g l = (l.self.stubs ≡ l.fn.self.stubs) × (l.self.client_connections ≡ l.fn.self.client_connections)
