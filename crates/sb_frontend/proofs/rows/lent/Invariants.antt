use Rattle.std.proofs.Common.{◌≡◌, map, take, Some}
use Rattle.std.specs.Prelude.{option_copied}
use Rattle.sb_frontend.proofs.rows.lent.Given as goal

abbrev pub invariant-loop-cell : goal.invariant-loop-cell
invariant-loop-cell l = map option_copied l.values.items ≡ map (λ c. Some c.items) (take l.cell-index l.cells)
