use Rattle.std.proofs.Common.{◌∙◌, sym, subst}
use Rattle.sb_tenant.specs.Represents.{StandFor}
use Rattle.sb_tenant.specs.State.{session_at}
use Rattle.sb_tenant.proofs.Calls.{number-below, has-active, not-active, aborted-active, aborted-none}
use Rattle.sb_tenant.proofs.store.Store.abort.Goals as goal

pub returns-in-Active-clause-aborted : goal.returns-in-Active-clause-aborted
returns-in-Active-clause-aborted g c = λ index state st.
    let s = c.args.session in let is = number-below s c.number-number.result c.number-number.ensures.value c.number-number.ensures.in_range in
    subst (StandFor c.conclude.new.self (g.L.ChangeLog.records c.conclude.new.log) (g.L.ChangeLog.clock c.conclude.new.log) index)
    (sym (aborted-active state s (has-active (session_at state s) (sym (st.0.1.phases s is) ∙ sym c.in-Active.ensures)))) (c.conclude.ensures.concluded index state st)

pub returns-in-Idle-clause-aborted : goal.returns-in-Idle-clause-aborted
returns-in-Idle-clause-aborted g c = λ index state st.
    let s = c.args.session in let is = number-below s c.number-number.result c.number-number.ensures.value c.number-number.ensures.in_range in
    subst (StandFor c.args.self.now (g.L.ChangeLog.records c.args.log.now) (g.L.ChangeLog.clock c.args.log.now) index)
    (sym (aborted-none state s (not-active (session_at state s) (λ e. let no = c.in-Idle.ensures ∙ st.0.1.phases s is ∙ e in absurd (cc))))) st

pub returns-in-Closed-clause-aborted : goal.returns-in-Closed-clause-aborted
returns-in-Closed-clause-aborted g c = λ index state st.
    let s = c.args.session in let is = number-below s c.number-number.result c.number-number.ensures.value c.number-number.ensures.in_range in
    subst (StandFor c.args.self.now (g.L.ChangeLog.records c.args.log.now) (g.L.ChangeLog.clock c.args.log.now) index)
    (sym (aborted-none state s (not-active (session_at state s) (λ e. let no = c.in-Closed.ensures ∙ st.0.1.phases s is ∙ e in absurd (cc))))) st
