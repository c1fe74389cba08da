use Rattle.std.proofs.lemmas.Result.{err_from_is_err_and}
use Rattle.sb_frontend.proofs.Playing.{check-fails, first-fails, first-found}
use Rattle.sb_frontend.proofs.play.has_statement.Goals as goal

pub returns-in_err-check : goal.returns-in_err-check
returns-in_err-check c =
    let p = err_from_is_err_and c.from_residual.result c.from_residual.ensures.1 in
    let new = c.new-statements in
    rw (p.1, p.2) (check-fails new.result c.args.text.now c.in_err-check.field-0.0 new.ensures.place new.ensures.text new.ensures.found c.in_err-check.ensures)

pub returns-in_err-first : goal.returns-in_err-first
returns-in_err-first c =
    let p = err_from_is_err_and c.from_residual-in_err-first.result c.from_residual-in_err-first.ensures.1 in
    let new = c.new-statements in
    rw (p.1, p.2) (first-fails new.result c.next_statement.new.self c.args.text.now c.in_err-first.field-0.0 new.ensures.place new.ensures.text new.ensures.found c.in_err-first.ensures.next)

pub returns : goal.returns
returns c =
    let new = c.new-statements in
    first-found new.result c.next_statement.new.self c.args.text.now c.in_ok-check.field-0 c.in_ok-first.first c.is_some.result new.ensures.place new.ensures.text new.ensures.found c.in_ok-check.ensures c.in_ok-first.ensures.next c.is_some.ensures
