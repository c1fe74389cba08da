use Rattle.std.proofs.Common.{◌≡◌, ◌+◌, length}
use Rattle.sb_frontend.specs.Cells.{number_len}
use Rattle.sb_frontend.proofs.cell.number_len.Given as goal

abbrev pub invariant-loop-rest : goal.invariant-loop-rest
invariant-loop-rest l = record { value : l.n + number_len l.rest ≡ number_len l.text; within : l.n + length l.rest ≡ length l.text }

abbrev pub decreases-loop-rest : goal.decreases-loop-rest
decreases-loop-rest l = length l.rest
