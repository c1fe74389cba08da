use Rattle.std.proofs.Common.{◌≡◌, ◌≤◌, ◌-◌, ℕ, length}
use Rattle.std.specs.Vec.{vec_len, vec_capacity}
use Rattle.sb_priority.specs.Closed.{relates}
use Rattle.sb_priority.specs.Rows.{direct_of, before_of}
use Rattle.sb_priority.proofs.rows.grow.Given as goal

-- there is room for all, and the rows relate the same
abbrev pub invariant-loop-rows : goal.invariant-loop-rows
invariant-loop-rows l = record {
  room : l.count ≤ vec_capacity l.rows;
  longer : length l.initial.rows.items ≤ length l.rows.items;
  few : length l.rows.items ≤ 256;
  direct : (a b : ℕ) → relates (direct_of l.rows.items) a b ≡ relates (direct_of l.initial.rows.items) a b;
  before : (a b : ℕ) → relates (before_of l.rows.items) a b ≡ relates (before_of l.initial.rows.items) a b;
}

abbrev pub decreases-loop-rows : goal.decreases-loop-rows
decreases-loop-rows l = l.count - vec_len l.rows
