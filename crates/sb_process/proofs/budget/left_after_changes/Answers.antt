use Rattle.std.proofs.Common.{◌≡◌, ◌∙◌, ℕ, ◌*◌, ◌-◌, ◌^◌, min, Option, Result, Ok, ap, sym}
use Rattle.sb_value.specs.declared.refusal.Refusal.{Refusal}
use Rattle.sb_process.specs.Budget.{with_work, change_work}
use Rattle.sb_process.proofs.Budgets.{scaled}
use Rattle.sb_process.proofs.budget.left_after_changes.Goals as goal

pub returns-in-Some : goal.returns-in-Some
returns-in-Some c =
    let meant : ℕ = c.args.count * change_work c.args.catalog.now c.args.table in
    let work : c.saturating_mul.result ≡ min meant (2 ^ 64 - 1) = scaled c.args.count c.change_work-each.result (change_work c.args.catalog.now c.args.table) (2 ^ 64 - 1) c.saturating_mul.result c.change_work-each.ensures c.saturating_mul.ensures in
    let taken : Option ℕ → Result (Option ℕ) Refusal = λ left. with_work meant left Ok in
    c.charge.ensures meant work ∙ ap taken (sym c.in-Some.is)
