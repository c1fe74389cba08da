use Rattle.std.proofs.Common.{◌∙◌, ap, refl, true}
use Rattle.sb_check.specs.Statements.{rows_fitting}
use Rattle.sb_check.proofs.StatementWalk.{rows_none, rows_more, rows_fail}
use Rattle.sb_check.proofs.statement.rows_fit.Goals as goal

pub more-preserved : goal.more-preserved
more-preserved c =
    let s = c.more.invariant ∙ ap (rows_fitting c.args.columns.now) c.in-Some.ensures.taken ∙ rows_more c.args.columns.now c.in-Some.row.now c.next.new.self in
    rw c.in-Ok.ensures at s

pub returns-in-Err : goal.returns-in-Err
returns-in-Err c =
    let s = c.more.invariant ∙ ap (rows_fitting c.args.columns.now) c.in-Some.ensures.taken ∙ rows_more c.args.columns.now c.in-Some.row.now c.next.new.self in
    rows_fail {X = Unit {0}} {Y = Unit {0}} (λ _. true) (λ _. true) c.args.columns.now _ _ _ _ s c.in-Err.ensures

pub returns : goal.returns
returns c = c.more.invariant ∙ ap (rows_fitting c.args.columns.now) (c.in_default.ensures.end refl) ∙ rows_none c.args.columns.now
