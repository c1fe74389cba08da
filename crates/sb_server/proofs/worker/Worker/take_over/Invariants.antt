use Rattle.std.proofs.Common.{◌≡◌, ◌≤◌}
use Rattle.sb_server.specs.Sessions.{session_count}
use Rattle.sb_server.proofs.worker.Worker.take_over.Given as goal

abbrev pub invariant-loop-handoff : goal.invariant-loop-handoff
invariant-loop-handoff g l = (l.self.stubs.items ≡ l.fn.self.stubs.items) × (session_count l.fn.self.client_connections (λ v. v.value.connection.attached) ≤ session_count l.self.client_connections (λ v. v.value.connection.attached))
