use Rattle.std.proofs.Common.{subst}
use Rattle.sb_tenant.specs.Represents.{StandFor}
use Rattle.sb_tenant.specs.Trail.{aborted}
use Rattle.sb_tenant.proofs.Leaving.{leaves_on, leaves_same}
use Rattle.sb_tenant.proofs.Opening.{ended}
use Rattle.sb_tenant.proofs.store.Store.end.Goals as goal

pub returns-clause-ended : goal.returns-clause-ended
returns-clause-ended g c = λ index state st.
    let s = c.args.session in let after = g.L.ChangeLog.records c.abort.new.log in let later = g.L.ChangeLog.clock c.abort.new.log in
    subst (StandFor c.close.new.self after later index) (ended state s) (c.close.ensures.closed after later index (aborted state s) (c.abort.ensures.aborted index state st))

pub returns-clause-leaves : goal.returns-clause-leaves
returns-clause-leaves g c = leaves_on c.abort.ensures.leaves (leaves_same 0 c.close.ensures.id c.close.ensures.tables)
