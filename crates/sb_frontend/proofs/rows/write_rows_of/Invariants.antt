-- those so far are written, and the others are left
use Rattle.std.proofs.Common.{◌≤◌, length}
use Rattle.sb_frontend.specs.Cells.{WritesTo}
use Rattle.sb_frontend.proofs.rows.write_rows_of.Given as goal

abbrev pub invariant-loop-row : goal.invariant-loop-row
invariant-loop-row l = record {
  written : WritesTo l.count l._row l.text l.left l.fn.out.items l.out.items;
  grows : length l.fn.out.items ≤ length l.out.items;
}
