use Rattle.std.proofs.Common.{refl}
use Rattle.sb_server.proofs.Renewed.{keeps_same, keeps_still, same_still}
use Rattle.sb_server.proofs.worker.Worker.renew.Goals as goal

-- none is due any more: they go on
pub returns-then-not-is_due-clause-keeps : goal.returns-then-not-is_due-clause-keeps
returns-then-not-is_due-clause-keeps g c =
    keeps_same g.D.Doorkeeper.policy g.E.Renewals.may_renew g.E.Renewals.takes (λ v. v.value.connection.attached) c.args.self.now.client_connections c.resume_all.new.self.client_connections c.args.self.now.stubs.items c.resume_all.new.self.stubs.items c.resume_all.ensures.stubs c.resume_all.ensures.sessions

-- one has a transaction
pub returns-else-is_at_rest-clause-keeps : goal.returns-else-is_at_rest-clause-keeps
returns-else-is_at_rest-clause-keeps g c = keeps_still g.D.Doorkeeper.policy g.E.Renewals.may_renew g.E.Renewals.takes (λ v. v.value.connection.attached) c.args.self.now.client_connections c.args.self.now.client_connections c.args.self.now.stubs.items c.args.self.now.stubs.items refl refl

pub returns-else-is_at_rest-clause-same : goal.returns-else-is_at_rest-clause-same
returns-else-is_at_rest-clause-same g c = same_still c.args.self.now.client_connections c.args.self.now.client_connections refl
