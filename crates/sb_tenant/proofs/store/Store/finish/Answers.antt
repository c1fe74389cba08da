use Rattle.std.proofs.Common.{◌∙◌, subst, refl}
use Rattle.sb_process.specs.Process.{stands_after}
use Rattle.sb_tenant.specs.Perform.{stands_as, stays}
use Rattle.sb_tenant.specs.Represents.{StandFor}
use Rattle.sb_tenant.proofs.Calls.{commits, commits-not, goes-on}
use Rattle.sb_tenant.proofs.Leaving.{leaves_same}
use Rattle.sb_tenant.proofs.store.Store.finish.Goals as goal

pub returns-then-done-clause-finished : goal.returns-then-done-clause-finished
returns-then-done-clause-finished g c = λ index state outcome progress e h.
    let s = c.args.session in
    subst (StandFor c.conclude.new.self (g.L.ChangeLog.records c.conclude.new.log) (g.L.ChangeLog.clock c.conclude.new.log) index) (commits state s c.args.finish c.in-Commit.is outcome progress (e ∙ c.if-done.true))
    (c.conclude.ensures.concluded index (stands_as state s stays (stands_after outcome progress)) h)

pub returns-else-done-clause-finished : goal.returns-else-done-clause-finished
returns-else-done-clause-finished g c = λ index state outcome progress e h.
    subst (StandFor c.args.self.now (g.L.ChangeLog.records c.args.log.now) (g.L.ChangeLog.clock c.args.log.now) index) (commits-not state c.args.session c.args.finish outcome progress (e ∙ c.if-done.false)) h

pub returns-else-done-clause-leaves : goal.returns-else-done-clause-leaves
returns-else-done-clause-leaves g c = leaves_same 0 refl refl

pub returns-in-GoOn-clause-leaves : goal.returns-in-GoOn-clause-leaves
returns-in-GoOn-clause-leaves g c = leaves_same 0 refl refl

pub returns-in-GoOn-clause-finished : goal.returns-in-GoOn-clause-finished
returns-in-GoOn-clause-finished g c = λ index state outcome progress e h.
    subst (StandFor c.args.self.now (g.L.ChangeLog.records c.args.log.now) (g.L.ChangeLog.clock c.args.log.now) index) (goes-on state c.args.session c.args.finish c.in-GoOn.is outcome progress) h
