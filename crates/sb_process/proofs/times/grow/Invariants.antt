use Rattle.std.proofs.Common.{◌≡◌, ◌≤◌, ◌-◌, ℕ, slice_index}
use Rattle.std.specs.Vec.{vec_len, vec_capacity}
use Rattle.sb_process.specs.Transactions.{times_of}
use Rattle.sb_process.proofs.times.grow.Given as goal

-- there is room for all, and the times are the same
abbrev pub invariant-loop-rows : goal.invariant-loop-rows
invariant-loop-rows l = record {
  room : l.count ≤ vec_capacity l.rows;
  marks : (s r : ℕ) → slice_index (times_of l.rows.items r).marks s ≡ slice_index (times_of l.initial.rows.items r).marks s;
  tested : (s r : ℕ) → slice_index (times_of l.rows.items r).tested s ≡ slice_index (times_of l.initial.rows.items r).tested s;
}

abbrev pub decreases-loop-rows : goal.decreases-loop-rows
decreases-loop-rows l = l.count - vec_len l.rows
