use Rattle.std.proofs.Common.{◌≡◌, length}
use Rattle.sb_cell.specs.Hosting.{AreFresh}
use Rattle.sb_cell.proofs.cell.opened.Given as goal

abbrev pub invariant-loop-place : goal.invariant-loop-place
invariant-loop-place l = AreFresh l.first l.stride l.bound l.made.items × (length l.made.items ≡ l.place)
