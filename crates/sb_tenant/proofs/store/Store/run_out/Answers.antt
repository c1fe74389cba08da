use Rattle.std.proofs.Common.{◌∙◌, inr, ap, sym, subst}
use Rattle.sb_tenant.specs.declared.reply.Reply.{Reply}
use Rattle.sb_tenant.specs.Represents.{StandFor}
use Rattle.sb_tenant.proofs.store.Store.run_out.Goals as goal

pub returns-clause-performed : goal.returns-clause-performed
returns-clause-performed g c = λ index before meant aside.
    inr (
      ap (λ (r : Reply × Reply). r.0) c.refused.ensures,
      subst (StandFor c.abort.new.self (g.L.ChangeLog.records c.abort.new.log) (g.L.ChangeLog.clock c.abort.new.log) index) aside.2 (c.abort.ensures.aborted index aside.0 aside.1),
    )

pub returns-clause-twice : goal.returns-clause-twice
returns-clause-twice g c = ap (λ (r : Reply × Reply). r.1) c.refused.ensures ∙ sym (ap (λ (r : Reply × Reply). r.0) c.refused.ensures)
