use Rattle.std.proofs.Common.{◌≡◌, ◌≤◌}
use Rattle.sb_server.specs.Renewals.{SameConnections}
use Rattle.sb_server.specs.Sessions.{session_count}
use Rattle.sb_server.proofs.worker.Worker.resume_all.Given as goal

abbrev pub invariant-loop-key : goal.invariant-loop-key
invariant-loop-key g l = record {
  stubs : l.self.stubs.items ≡ l.fn.self.stubs.items;
  sessions : session_count l.fn.self.client_connections (λ v. v.value.connection.attached) ≤ session_count l.self.client_connections (λ v. v.value.connection.attached);
  same : SameConnections l.fn.self.client_connections l.self.client_connections;
}
