-- one line more is there
use Rattle.std.proofs.Common.{◌<◌, length, arith}
use Rattle.std.proofs.lemmas.Result.{err_from_is_err_and}
use Rattle.sb_rows.proofs.Newlines.{front_through}
use Rattle.sb_rows.proofs.Walks.{lines_left, lines_there}
use Rattle.sb_rows.proofs.lines.push_lines.Goals as goal

pub returns-in_err-push_line-clause-err : goal.returns-in_err-push_line-clause-err
returns-in_err-push_line-clause-err c =
    let p = err_from_is_err_and c.from_residual.result c.from_residual.ensures.1 in
    rw p.1 (front_through _ _ _ _ c.loop-row.invariant.out c.in_err-push_line.ensures.err)

pub loop-row-preserved : goal.loop-row-preserved
loop-row-preserved c =
    let low : c.loop-row._row < length c.args.rows.now.rows = omega (arith, c.len-row-end.ensures, c.loop-row-test.true) in
    let left = lines_left _ _ _ low c.text-left.ensures.lines c.loop-row.invariant.left in record {
      left = c.split_line.ensures.rest _ _ left;
      out = lines_there _ _ _ _ _ _ _ low c.loop-row.invariant.out (c.split_line.ensures.line _ _ left) c.in_ok-push_line.ensures.ok;
    }
