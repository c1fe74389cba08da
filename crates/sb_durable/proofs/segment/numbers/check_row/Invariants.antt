use Rattle.std.proofs.Common.{◌≡◌, ℕ, ◌+◌, ◌<◌}
use Rattle.std.specs.Prelude.{slice_index}
use Rattle.sb_durable.proofs.segment.numbers.check_row.Given as goal

-- those before it follow one another
abbrev pub invariant-loop-i : goal.invariant-loop-i
invariant-loop-i l = (k : ℕ) → k + 1 < l.i → slice_index l.numbers (k + 1) ≡ slice_index l.numbers k + 1
