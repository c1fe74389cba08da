use Rattle.std.proofs.Common.{◌≡◌, ◌≤◌, ◌-◌, length}
use Rattle.sb_postgres.specs.Lines.{ending}
use Rattle.sb_postgres.specs.Cutting.{lines_from}
use Rattle.sb_postgres.proofs.query.reading.check_from.Given as goal

abbrev pub invariant-loop-at : goal.invariant-loop-at
invariant-loop-at l = record { so_far : ending (lines_from l.at l.text) ≡ ending (lines_from l.from l.text); within : l.at ≤ length l.text }

abbrev pub decreases-loop-at : goal.decreases-loop-at
decreases-loop-at l = length l.text - l.at
