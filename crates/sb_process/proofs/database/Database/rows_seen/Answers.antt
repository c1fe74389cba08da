use Rattle.sb_eval.specs.Statement.{select_rows}
use Rattle.sb_process.specs.View.{seen_by}
use Rattle.sb_process.proofs.Requests.{answer_ok, answer_err}
use Rattle.sb_process.proofs.database.Database.rows_seen.Goals as goal

pub returns-in-Ok : goal.returns-in-Ok
returns-in-Ok c =
    let v = c.view-view.ensures in
    answer_ok _ _ c.in-Ok.rows c.in-Ok.ensures (λ i. select_rows (seen_by (v.tables i) (v.transition i) (v.who i)) c.args.query.now)

pub returns-in-Err : goal.returns-in-Err
returns-in-Err c =
    let v = c.view-view.ensures in
    answer_err (λ rows. rows) _ _ c.in-Err.error c.refusal_for.result c.in-Err.ensures c.refusal_for.ensures
    (λ i. select_rows (seen_by (v.tables i) (v.transition i) (v.who i)) c.args.query.now)
