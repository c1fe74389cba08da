use Rattle.std.proofs.Common.{sym, arith}
use Rattle.std.proofs.lemmas.Result.{err_from_is_err_and}
use Rattle.sb_postgres.proofs.FillEnds.{whole_of, ends_by_part, ends_by_fault, ends_long, ends_well}
use Rattle.sb_postgres.proofs.FillTurns.{goes_on}
use Rattle.sb_postgres.proofs.Turns.{here}
use Rattle.sb_postgres.proofs.query.template.fill.Goals as goal

pub returns-in_err-push_part-in-Ok : goal.returns-in_err-push_part-in-Ok
returns-in_err-push_part-in-Ok c =
    let p = err_from_is_err_and c.from_residual.result c.from_residual.ensures.1 in
    let line = c.args.line.now in
    let at = c.loop-at.at in
    let h = here line at c.in-Ok.kind c.in-Ok.len c.loop-at-test.true c.in-Ok.ensures.within.0 (sym c.in-Ok.ensures.value) in
    rw (p.1, p.2) (ends_by_part c.args.values.now line _ c.loop-at.made.items c.push_part.new.out.items at c.in-Ok.kind c.in-Ok.len c.in_err-push_part-in-Ok.field-0.0 h c.in_err-push_part-in-Ok.ensures c.loop-at.invariant.so_far)

pub loop-at-preserved : goal.loop-at-preserved
loop-at-preserved c =
    let values = c.args.values.now in
    let line = c.args.line.now in
    let at = c.loop-at.at in
    let h = here line at c.in-Ok.kind c.in-Ok.len c.loop-at-test.true c.in-Ok.ensures.within.0 (sym c.in-Ok.ensures.value) in
    record {
      so_far = goes_on values line _ c.loop-at.made.items _ at c.in-Ok.kind c.in-Ok.len (whole_of values line) h c.in_ok-push_part-in-Ok.ensures c.loop-at.invariant.so_far;
      within = omega (arith, c.in-Ok.ensures.within.1);
    }

pub returns-in-Err : goal.returns-in-Err
returns-in-Err c =
    ends_by_fault c.args.values.now c.args.line.now c.loop-at.made.items c.loop-at.at c.in-Err.fault c.loop-at-test.true (sym c.in-Err.ensures.value) c.loop-at.invariant.so_far

pub returns-then-len-gt-LINE_LIMIT : goal.returns-then-len-gt-LINE_LIMIT
returns-then-len-gt-LINE_LIMIT c =
    ends_long c.args.values.now c.args.line.now c.loop-at.made.items c.loop-at.at c.loop-at-test.false (omega (arith, c.loop-at.made.ok.0)) c.loop-at.invariant.so_far

pub returns : goal.returns
returns c =
    ends_well c.args.values.now c.args.line.now c.loop-at.made c.loop-at.at c.loop-at-test.false (omega (arith, c.loop-at.made.ok.0)) c.loop-at.invariant.so_far
