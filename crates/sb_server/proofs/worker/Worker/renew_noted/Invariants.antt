use Rattle.sb_server.specs.Renewals.{KeepsOrRenews, SameConnections}
use Rattle.sb_server.proofs.worker.Worker.renew_noted.Given as goal

abbrev pub invariant-loop-tenant : goal.invariant-loop-tenant
invariant-loop-tenant g l = record {
  keeps : KeepsOrRenews g.D.Doorkeeper.policy g.E.Renewals.may_renew g.E.Renewals.takes l.fn.self.client_connections l.self.client_connections (λ v. v.value.connection.attached) l.fn.self.stubs.items l.self.stubs.items;
  same : SameConnections l.fn.self.client_connections l.self.client_connections;
}
