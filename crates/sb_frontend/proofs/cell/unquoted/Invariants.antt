use Rattle.std.proofs.Common.{◌≡◌, ◌≤◌, ◌++◌, length}
use Rattle.sb_frontend.specs.Cells.{unquoted}
use Rattle.sb_frontend.proofs.cell.unquoted.Given as goal

abbrev pub invariant-loop-rest : goal.invariant-loop-rest
invariant-loop-rest l = record {
  first : l.bytes.items ++ (unquoted l.rest).0 ≡ (unquoted l.text).0;
  second : (unquoted l.rest).1 ≡ (unquoted l.text).1;
  within : length l.rest ≤ length l.text;
}

abbrev pub decreases-loop-rest : goal.decreases-loop-rest
decreases-loop-rest l = length l.rest
