use Rattle.std.proofs.Common.{ap, refl, Vec}
use Rattle.std.specs.Global.{Global}
use Rattle.sb_desk.specs.declared.stub.Stub.{Stub}
use Rattle.sb_server.proofs.Renewed.{keeps_still, keeps_then, keeps_then_closed, keeps_then_same, keeps_then_still}
use Rattle.sb_server.proofs.worker.Worker.serve.Goals as goal

pub loop-turn-init : goal.loop-turn-init
loop-turn-init g c = keeps_still g.D.Doorkeeper.policy g.E.Renewals.may_renew g.E.Renewals.takes (λ v. v.value.connection.attached) c.args.self.now.client_connections c.args.self.now.client_connections c.args.self.now.stubs.items c.args.self.now.stubs.items refl refl

-- connections that are taken over
pub returns-then-is_stopping : goal.returns-then-is_stopping
returns-then-is_stopping g c =
    keeps_then_same g.D.Doorkeeper.policy g.E.Renewals.may_renew g.E.Renewals.takes (λ v. v.value.connection.attached) c.args.self.now.client_connections c.loop-turn.self.client_connections c.take_over.new.self.client_connections c.args.self.now.stubs.items c.loop-turn.self.stubs.items c.take_over.new.self.stubs.items c.loop-turn.invariant c.take_over.ensures.stubs c.take_over.ensures.sessions

-- and that they are waited for
pub returns-then-not-wait : goal.returns-then-not-wait
returns-then-not-wait g c =
    let over = keeps_then_same g.D.Doorkeeper.policy g.E.Renewals.may_renew g.E.Renewals.takes (λ v. v.value.connection.attached) c.args.self.now.client_connections c.loop-turn.self.client_connections c.take_over.new.self.client_connections c.args.self.now.stubs.items c.loop-turn.self.stubs.items c.take_over.new.self.stubs.items c.loop-turn.invariant c.take_over.ensures.stubs c.take_over.ensures.sessions in
    keeps_then_still g.D.Doorkeeper.policy g.E.Renewals.may_renew g.E.Renewals.takes (λ v. v.value.connection.attached) c.args.self.now.client_connections c.take_over.new.self.client_connections c.wait.new.self.client_connections c.args.self.now.stubs.items c.take_over.new.self.stubs.items c.wait.new.self.stubs.items over (ap (λ (s : Vec Stub Global). s.items) c.wait.ensures.0) c.wait.ensures.1

pub loop-event-init : goal.loop-event-init
loop-event-init g c =
    let over = keeps_then_same g.D.Doorkeeper.policy g.E.Renewals.may_renew g.E.Renewals.takes (λ v. v.value.connection.attached) c.args.self.now.client_connections c.loop-turn.self.client_connections c.take_over.new.self.client_connections c.args.self.now.stubs.items c.loop-turn.self.stubs.items c.take_over.new.self.stubs.items c.loop-turn.invariant c.take_over.ensures.stubs c.take_over.ensures.sessions in
    keeps_then_still g.D.Doorkeeper.policy g.E.Renewals.may_renew g.E.Renewals.takes (λ v. v.value.connection.attached) c.args.self.now.client_connections c.take_over.new.self.client_connections c.wait.new.self.client_connections c.args.self.now.stubs.items c.take_over.new.self.stubs.items c.wait.new.self.stubs.items over (ap (λ (s : Vec Stub Global). s.items) c.wait.ensures.0) c.wait.ensures.1

pub loop-event-preserved : goal.loop-event-preserved
loop-event-preserved g c =
    keeps_then_same g.D.Doorkeeper.policy g.E.Renewals.may_renew g.E.Renewals.takes (λ v. v.value.connection.attached) c.args.self.now.client_connections c.loop-event.self.client_connections c.note.new.self.client_connections c.args.self.now.stubs.items c.loop-event.self.stubs.items c.note.new.self.stubs.items c.loop-event.invariant (ap (λ (s : Vec Stub Global). s.items) c.note.ensures.stubs) c.note.ensures.sessions

-- turns, those that were silent, and renewals
pub loop-turn-preserved : goal.loop-turn-preserved
loop-turn-preserved g c =
    let served = keeps_then_closed g.D.Doorkeeper.policy g.E.Renewals.may_renew g.E.Renewals.takes (λ v. v.value.connection.attached) c.args.self.now.client_connections c.loop-event.self.client_connections c.serve_due.new.self.client_connections c.args.self.now.stubs.items c.loop-event.self.stubs.items c.serve_due.new.self.stubs.items c.loop-event.invariant c.serve_due.ensures.gains c.serve_due.ensures.sessions in
    let swept = keeps_then_closed g.D.Doorkeeper.policy g.E.Renewals.may_renew g.E.Renewals.takes (λ v. v.value.connection.attached) c.args.self.now.client_connections c.serve_due.new.self.client_connections c.sweep.new.self.client_connections c.args.self.now.stubs.items c.serve_due.new.self.stubs.items c.sweep.new.self.stubs.items served c.sweep.ensures.gains c.sweep.ensures.sessions in
    keeps_then g.D.Doorkeeper.policy g.E.Renewals.may_renew g.E.Renewals.takes (λ v. v.value.connection.attached) c.args.self.now.client_connections c.sweep.new.self.client_connections c.renew_noted.new.self.client_connections c.args.self.now.stubs.items c.sweep.new.self.stubs.items c.renew_noted.new.self.stubs.items swept c.renew_noted.ensures.keeps
