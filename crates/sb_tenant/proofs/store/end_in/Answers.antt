use Rattle.std.proofs.Common.{sym, subst}
use Rattle.sb_tenant.specs.declared.store.Ending.{Ending}
use Rattle.sb_tenant.specs.Ending.{IsConcluded}
use Rattle.sb_tenant.proofs.store.end_in.Goals as goal

pub returns-in-TakeBack-clause-concluded : goal.returns-in-TakeBack-clause-concluded
returns-in-TakeBack-clause-concluded g c = λ origin setting progress r.
    subst (λ (e : Ending). IsConcluded e origin c.args.database.now c.rollback.new.self c.args.session (g.L.ChangeLog.records c.rollback.new.log) setting progress) (sym c.in-TakeBack.is)
    (c.rollback.ensures.back origin setting progress r)
