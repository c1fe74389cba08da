use Rattle.std.proofs.Common.{Bool}
use Rattle.sb_eval.specs.Statement.{condition_rows}
use Rattle.sb_process.specs.Running.{truth}
use Rattle.sb_process.specs.View.{seen_by}
use Rattle.sb_process.proofs.Requests.{answer_ok, answer_err}
use Rattle.sb_process.proofs.database.Database.has_row.Goals as goal

pub returns-in-Ok : goal.returns-in-Ok
returns-in-Ok c =
    let v = c.view-view.ensures in
    answer_ok {A = Bool} _ _ c.in-Ok.found c.in-Ok.ensures (λ i. truth (condition_rows (seen_by (v.tables i) (v.transition i) (v.who i)) c.args.query.now))

pub returns-in-Err : goal.returns-in-Err
returns-in-Err c =
    let v = c.view-view.ensures in
    answer_err {X = Bool} (λ found. found) _ _ c.in-Err.error c.refusal_for.result c.in-Err.ensures c.refusal_for.ensures
    (λ i. truth (condition_rows (seen_by (v.tables i) (v.transition i) (v.who i)) c.args.query.now))
