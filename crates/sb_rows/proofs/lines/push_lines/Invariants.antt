-- the lines so far are there, and the others are left
use Rattle.std.proofs.Common.{◌≡◌, ◌++◌, take, drop}
use Rattle.sb_rows.specs.RowText.{rows_text, started_rows}
use Rattle.sb_rows.proofs.lines.push_lines.Given as goal

abbrev pub invariant-loop-row : goal.invariant-loop-row
invariant-loop-row l = record {
  left : l.left ≡ rows_text (drop l._row l.rows.rows);
  out : l.out.items ≡ l.fn.out.items ++ started_rows l.start (take l._row l.rows.rows);
}
