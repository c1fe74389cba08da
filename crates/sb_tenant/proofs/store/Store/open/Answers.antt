use Rattle.std.proofs.Common.{refl}
use Rattle.sb_tenant.specs.declared.phase.Phase.TheVariants.{Idle}
use Rattle.sb_tenant.specs.declared.store.Store.{Store}
use Rattle.sb_tenant.proofs.Calls.{set-other, set-own}
use Rattle.sb_tenant.proofs.Opening.{opens-holds, opens-agrees}
use Rattle.sb_tenant.proofs.store.Store.open.Goals as goal

pub returns-clause-holds : goal.returns-clause-holds
returns-clause-holds c = λ origin state h.
    let old : Store = c.args.self.now in let s = c.args.session in let is = c.tables_are_shared.ensures.in_range in
    opens-holds s is old (record old { phases = c.set.new.self }) state origin h c.requires refl refl (set-own old.phases c.set.new.self s Idle c.set.ensures) (set-other old.phases c.set.new.self s Idle c.set.ensures)

pub returns-clause-opened : goal.returns-clause-opened
returns-clause-opened c = λ records clock index state st.
    let old : Store = c.args.self.now in let s = c.args.session in let is = c.tables_are_shared.ensures.in_range in (
      (st.0.0, returns-clause-holds c st.0.0 state st.0.1),
      opens-agrees s is old (record old { phases = c.set.new.self }) state st.0.0 st.0.1 c.requires old.database.id records clock index st.1,
    )
