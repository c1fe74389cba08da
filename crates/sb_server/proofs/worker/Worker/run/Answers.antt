use Rattle.sb_server.proofs.Renewed.{keeps_still, keeps_then, keeps_then_closed}
use Rattle.sb_server.proofs.worker.Worker.run.Goals as goal

pub returns-then-not-meet : goal.returns-then-not-meet
returns-then-not-meet g c = keeps_still g.D.Doorkeeper.policy g.E.Renewals.may_renew g.E.Renewals.takes (λ v. v.value.connection.attached) c.args.self.now.client_connections c.meet.new.self.client_connections c.args.self.now.stubs.items c.meet.new.self.stubs.items c.meet.ensures.0 c.meet.ensures.1

pub returns : goal.returns
returns g c =
    let met = keeps_still g.D.Doorkeeper.policy g.E.Renewals.may_renew g.E.Renewals.takes (λ v. v.value.connection.attached) c.args.self.now.client_connections c.meet.new.self.client_connections c.args.self.now.stubs.items c.meet.new.self.stubs.items c.meet.ensures.0 c.meet.ensures.1 in
    let served = keeps_then g.D.Doorkeeper.policy g.E.Renewals.may_renew g.E.Renewals.takes (λ v. v.value.connection.attached) c.args.self.now.client_connections c.meet.new.self.client_connections c.serve.new.self.client_connections c.args.self.now.stubs.items c.meet.new.self.stubs.items c.serve.new.self.stubs.items met c.serve.ensures in
    keeps_then_closed g.D.Doorkeeper.policy g.E.Renewals.may_renew g.E.Renewals.takes (λ v. v.value.connection.attached) c.args.self.now.client_connections c.serve.new.self.client_connections c.close_all.new.self.client_connections c.args.self.now.stubs.items c.serve.new.self.stubs.items c.close_all.new.self.stubs.items served c.close_all.ensures.gains c.close_all.ensures.sessions
