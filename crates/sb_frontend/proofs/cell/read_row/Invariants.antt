use Rattle.std.proofs.Common.{length, map}
use Rattle.sb_frontend.proofs.RowReads.{Reads}
use Rattle.sb_frontend.proofs.cell.read_row.Given as goal

abbrev pub invariant-cells : goal.invariant-cells
invariant-cells l = Reads l.text l.left (map (λ c. c.items) l.cells.items)

abbrev pub decreases-cells : goal.decreases-cells
decreases-cells l = length l.left
