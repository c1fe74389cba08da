use Rattle.std.proofs.Common.{refl}
use Rattle.sb_server.proofs.Renewed.{keeps_still, keeps_then, same_still, same_then}
use Rattle.sb_server.proofs.worker.Worker.suspend_all.Goals as goal

pub loop-key-init : goal.loop-key-init
loop-key-init g c = record {
  keeps = keeps_still g.D.Doorkeeper.policy g.E.Renewals.may_renew g.E.Renewals.takes (λ v. v.value.connection.attached) c.args.self.now.client_connections c.args.self.now.client_connections c.args.self.now.stubs.items c.args.self.now.stubs.items refl refl;
  same = same_still c.args.self.now.client_connections c.args.self.now.client_connections refl;
}

pub loop-key-preserved : goal.loop-key-preserved
loop-key-preserved g c = record {
  keeps = keeps_then g.D.Doorkeeper.policy g.E.Renewals.may_renew g.E.Renewals.takes (λ v. v.value.connection.attached) c.args.self.now.client_connections c.loop-key.self.client_connections c.suspend.new.self.client_connections c.args.self.now.stubs.items c.loop-key.self.stubs.items c.suspend.new.self.stubs.items c.loop-key.invariant.keeps c.suspend.ensures.keeps;
  same = same_then c.args.self.now.client_connections c.loop-key.self.client_connections c.suspend.new.self.client_connections c.loop-key.invariant.same c.suspend.ensures.same;
}

-- there was no memory
pub returns-then-not-suspend : goal.returns-then-not-suspend
returns-then-not-suspend g c = record {
  keeps = keeps_then g.D.Doorkeeper.policy g.E.Renewals.may_renew g.E.Renewals.takes (λ v. v.value.connection.attached) c.args.self.now.client_connections c.loop-key.self.client_connections c.suspend.new.self.client_connections c.args.self.now.stubs.items c.loop-key.self.stubs.items c.suspend.new.self.stubs.items c.loop-key.invariant.keeps c.suspend.ensures.keeps;
  same = same_then c.args.self.now.client_connections c.loop-key.self.client_connections c.suspend.new.self.client_connections c.loop-key.invariant.same c.suspend.ensures.same;
}
