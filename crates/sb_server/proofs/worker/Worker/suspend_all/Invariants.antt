use Rattle.sb_server.specs.Renewals.{KeepsOrRenews, SameConnections}
use Rattle.sb_server.proofs.worker.Worker.suspend_all.Given as goal

abbrev pub invariant-loop-key : goal.invariant-loop-key
invariant-loop-key g l = record {
  keeps : KeepsOrRenews g.D.Doorkeeper.policy g.E.Renewals.may_renew g.E.Renewals.takes l.fn.self.client_connections l.self.client_connections (λ v. v.value.connection.attached) l.fn.self.stubs.items l.self.stubs.items;
  same : SameConnections l.fn.self.client_connections l.self.client_connections;
}
