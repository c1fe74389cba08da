use Rattle.std.proofs.Common.{◌≡◌, ◌<◌, ℕ, length}
use Rattle.sb_priority.specs.Rows.{row_at, IsRowOf}
use Rattle.sb_priority.proofs.rows.fill.Given as goal

-- the rows before this one are of the pairs
abbrev pub invariant-loop-number : goal.invariant-loop-number
invariant-loop-number l = record {
  count : length l.rows.items ≡ length l.initial.rows.items;
  filled : (b : ℕ) → b < l.number → IsRowOf l.pairs b (row_at l.rows.items b);
}
