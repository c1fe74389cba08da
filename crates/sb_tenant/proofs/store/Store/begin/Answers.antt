use Rattle.std.proofs.Common.{refl, arith}
use Rattle.sb_tenant.specs.declared.phase.Phase.TheVariants.{Active}
use Rattle.sb_tenant.specs.State.{setting_of}
use Rattle.sb_tenant.proofs.Calls.{set-other, set-own, called, begins}
use Rattle.sb_tenant.proofs.Standing.{base_of}
use Rattle.sb_tenant.proofs.store.Store.begin.Goals as goal

pub returns-clause-begun : goal.returns-clause-begun
returns-clause-begun c = λ records clock index state st.
    let old = c.args.self.now in let s = c.args.session in
    begins c.tables_are_shared.ensures.laws c.tables_are_shared.ensures.in_range st.0.1 st.1
    (called old c.begin.new.self c.set.new.self c.begin.ensures.id (λ other differs. refl) (omega arith) c.begin.ensures.sessions (set-other old.phases c.set.new.self s Active c.set.ensures))
    c.requires (set-own old.phases c.set.new.self s Active c.set.ensures) (c.begin.ensures.begun (base_of st.0.0 state s) records clock (setting_of old.database.id state s))
