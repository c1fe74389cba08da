use Rattle.std.proofs.Common.{ℕ, sym, ap}
use Rattle.sb_process.specs.Budget.{change_work}
use Rattle.sb_process.proofs.Effects.{priced-same, priced-refused}
use Rattle.sb_process.proofs.database.Database.priced_changes.Goals as goal

pub returns-in-Ok-clause-ok : goal.returns-in-Ok-clause-ok
returns-in-Ok-clause-ok c =
    priced-same c.priced.result (λ e. e.0.items) (λ e. e.1) c.args.left (ap (λ (t : ℕ). change_work c.args.rules.now.catalog.now t) (sym c.target.ensures)) c.in-Ok.ensures.ok c.priced.ensures.ok

pub returns-in-Ok-clause-err : goal.returns-in-Ok-clause-err
returns-in-Ok-clause-err c =
    priced-refused c.priced.result c.args.left (ap (λ (t : ℕ). change_work c.args.rules.now.catalog.now t) (sym c.target.ensures)) c.in-Ok.ensures.ok c.priced.ensures.err
