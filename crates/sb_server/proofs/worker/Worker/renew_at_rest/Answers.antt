use Rattle.sb_server.proofs.Renewed.{keeps_then_same, same_then}
use Rattle.sb_server.proofs.worker.Worker.renew_at_rest.Goals as goal

pub returns-clause-keeps : goal.returns-clause-keeps
returns-clause-keeps g c =
    keeps_then_same g.D.Doorkeeper.policy g.E.Renewals.may_renew g.E.Renewals.takes (λ v. v.value.connection.attached) c.args.self.now.client_connections c.end_volume.new.self.client_connections c.resume_all.new.self.client_connections c.args.self.now.stubs.items c.end_volume.new.self.stubs.items c.resume_all.new.self.stubs.items c.end_volume.ensures.keeps c.resume_all.ensures.stubs c.resume_all.ensures.sessions

pub returns-clause-same : goal.returns-clause-same
returns-clause-same g c = same_then c.args.self.now.client_connections c.end_volume.new.self.client_connections c.resume_all.new.self.client_connections c.end_volume.ensures.same c.resume_all.ensures.same
