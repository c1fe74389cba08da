use Rattle.sb_server.specs.Renewals.{KeepsOrRenews}
use Rattle.sb_server.proofs.worker.Worker.serve.Given as goal

abbrev pub invariant-loop-turn : goal.invariant-loop-turn
invariant-loop-turn g l =
    KeepsOrRenews g.D.Doorkeeper.policy g.E.Renewals.may_renew g.E.Renewals.takes l.fn.self.client_connections l.self.client_connections (λ v. v.value.connection.attached) l.fn.self.stubs.items l.self.stubs.items

-- an event changes no receipts
abbrev pub invariant-loop-event : goal.invariant-loop-event
invariant-loop-event g l =
    KeepsOrRenews g.D.Doorkeeper.policy g.E.Renewals.may_renew g.E.Renewals.takes l.fn.self.client_connections l.self.client_connections (λ v. v.value.connection.attached) l.fn.self.stubs.items l.self.stubs.items
