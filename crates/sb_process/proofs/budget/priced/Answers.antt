use Rattle.std.proofs.Common.{◌∙◌, refl}
use Rattle.sb_process.specs.Budget.{change_work}
use Rattle.sb_process.proofs.Budgets.{priced-ok, priced-err}
use Rattle.sb_process.proofs.budget.priced.Goals as goal

pub returns-in-Ok-clause-ok : goal.returns-in-Ok-clause-ok
returns-in-Ok-clause-ok c =
    (refl, priced-ok (change_work c.args.catalog.now c.args.table) c.len.result c.args.left c.in-Ok.left c.args.changes.items (c.len.ensures ∙ c.args.changes.ok.0) c.in-Ok.ensures)

pub returns-in-Err-clause-err : goal.returns-in-Err-clause-err
returns-in-Err-clause-err c =
    priced-err (change_work c.args.catalog.now c.args.table) c.len.result c.args.left c.in-Err.refusal c.args.changes.items (c.len.ensures ∙ c.args.changes.ok.0) c.in-Err.ensures
