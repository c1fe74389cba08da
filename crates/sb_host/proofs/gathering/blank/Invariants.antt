use Rattle.std.proofs.Common.{◌≡◌, ℕ, [], length}
use Rattle.sb_host.specs.Finish.{row_at}
use Rattle.sb_host.proofs.gathering.blank.Given as goal

abbrev pub invariant-loop-row : goal.invariant-loop-row
invariant-loop-row g l = (length l.rows.items ≡ l._row) × ((n : ℕ) → row_at l.rows.items n ≡ [])
