use Rattle.std.proofs.Common.{refl}
use Rattle.sb_server.proofs.Renewed.{keeps_still, keeps_then, same_still, same_then}
use Rattle.sb_server.proofs.worker.Worker.renew_noted.Goals as goal

pub loop-tenant-init : goal.loop-tenant-init
loop-tenant-init g c = record {
  keeps = keeps_still g.D.Doorkeeper.policy g.E.Renewals.may_renew g.E.Renewals.takes (λ v. v.value.connection.attached) c.args.self.now.client_connections c.args.self.now.client_connections c.args.self.now.stubs.items c.args.self.now.stubs.items refl refl;
  same = same_still c.args.self.now.client_connections c.args.self.now.client_connections refl;
}

pub loop-tenant-preserved : goal.loop-tenant-preserved
loop-tenant-preserved g c = record {
  keeps = keeps_then g.D.Doorkeeper.policy g.E.Renewals.may_renew g.E.Renewals.takes (λ v. v.value.connection.attached) c.args.self.now.client_connections c.loop-tenant.self.client_connections c.renew.new.self.client_connections c.args.self.now.stubs.items c.loop-tenant.self.stubs.items c.renew.new.self.stubs.items c.loop-tenant.invariant.keeps c.renew.ensures.keeps;
  same = same_then c.args.self.now.client_connections c.loop-tenant.self.client_connections c.renew.new.self.client_connections c.loop-tenant.invariant.same c.renew.ensures.same;
}

-- it isn't the time
pub returns-then-not-is_empty : goal.returns-then-not-is_empty
returns-then-not-is_empty g c = record {
  keeps = keeps_still g.D.Doorkeeper.policy g.E.Renewals.may_renew g.E.Renewals.takes (λ v. v.value.connection.attached) c.args.self.now.client_connections c.args.self.now.client_connections c.args.self.now.stubs.items c.args.self.now.stubs.items refl refl;
  same = same_still c.args.self.now.client_connections c.args.self.now.client_connections refl;
}
