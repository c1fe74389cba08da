use Rattle.std.proofs.Common.{sym, subst, List, ℕ}
use Rattle.sb_tenant.specs.declared.reply.Entry.{Entry}
use Rattle.sb_tenant.specs.Logged.{Agrees}
use Rattle.sb_tenant.specs.Lending.{HoldNothing}
use Rattle.sb_tenant.specs.Trail.{state_of}
use Rattle.sb_tenant.proofs.Steps.{new_in_step}
use Rattle.sb_tenant.proofs.tenant.Tenant.new.Goals as goal

pub returns-clause-in_step : goal.returns-clause-in_step
returns-clause-in_step c = λ records clock index nothing.
    subst (λ (es : List Entry). Agrees c.new.result.database.id (state_of c.new.result.database.id c.args.bound es) c.new.result.database.transactions records clock index) (sym c.new-2.ensures.items)
    (new_in_step c.new.result.database.id c.args.bound c.new.result.database.transactions c.new.ensures.marks c.new.ensures.tested records clock index (subst (λ (i : ℕ). HoldNothing i records index) (sym c.new.ensures.id) nothing))
