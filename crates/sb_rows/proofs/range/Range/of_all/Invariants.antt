use Rattle.std.proofs.Common.{◌<◌, ℕ, pos, slice_index_or}
use Rattle.std.specs.List.{Contains}
use Rattle.sb_rows.specs.Range.{IsIn}
use Rattle.sb_rows.proofs.range.Range.of_all.Given as goal

abbrev pub invariant-loop-number : goal.invariant-loop-number
invariant-loop-number l = record {
  seen : (k : ℕ) → k < l.number-index → IsIn l.range (slice_index_or l.numbers k (pos 0));
  least : Contains l.numbers l.range.least;
  greatest : Contains l.numbers l.range.greatest;
}
