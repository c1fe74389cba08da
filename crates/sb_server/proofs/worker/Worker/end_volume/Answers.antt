use Rattle.sb_server.proofs.Renewed.{keeps_then, same_still, same_then}
use Rattle.sb_server.proofs.worker.Worker.end_volume.Goals as goal

pub returns-clause-keeps : goal.returns-clause-keeps
returns-clause-keeps g c =
    keeps_then g.D.Doorkeeper.policy g.E.Renewals.may_renew g.E.Renewals.takes (λ v. v.value.connection.attached) c.args.self.now.client_connections c.suspend_all.new.self.client_connections c.give_receipts.new.self.client_connections c.args.self.now.stubs.items c.suspend_all.new.self.stubs.items c.give_receipts.new.self.stubs.items c.suspend_all.ensures.keeps c.give_receipts.ensures.keeps

pub returns-clause-same : goal.returns-clause-same
returns-clause-same g c =
    same_then c.args.self.now.client_connections c.suspend_all.new.self.client_connections c.give_receipts.new.self.client_connections c.suspend_all.ensures.same
    (same_still c.suspend_all.new.self.client_connections c.give_receipts.new.self.client_connections c.give_receipts.ensures.others)
