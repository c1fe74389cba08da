use Rattle.std.proofs.Common.{refl}
use Rattle.std.proofs.lemmas.Result.{err_from_is_err_and}
use Rattle.sb_syntax.specs.Reading.{multiplies, factor}
use Rattle.sb_syntax.proofs.Turns.{goes_on-next, goes_on-err, goes_on-end, next_falls}
use Rattle.sb_syntax.proofs.expression.term.Goals as goal

pub returns-in_err-right : goal.returns-in_err-right
returns-in_err-right c =
    let p = err_from_is_err_and c.from_residual-in_err-right.result c.from_residual-in_err-right.ensures.1 in
    rw (p.1, p.2) (goes_on-err multiplies factor _ _ _ _ _ c.peek.result _ _ refl c.more.invariant c.peek.ensures c.in-Some.ensures c.skip.ensures.value c.in_err-right.ensures)

pub more-smaller : goal.more-smaller
more-smaller c = next_falls multiplies c.more.tokens c.peek.result _ c.skip.new.self _ refl c.peek.ensures c.in-Some.ensures c.skip.ensures.value c.in_ok-right.ensures.1

pub more-preserved : goal.more-preserved
more-preserved c = goes_on-next multiplies factor _ _ _ _ _ c.skip.new.self _ c.peek.result _ _ refl c.more.invariant c.peek.ensures c.in-Some.ensures c.skip.ensures.value c.in_ok-right.ensures c.in_ok-left-2.ensures

pub returns : goal.returns
returns c = goes_on-end multiplies factor _ _ _ _ c.peek.result c.more.invariant c.peek.ensures c.in_default.ensures
