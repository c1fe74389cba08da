use Rattle.std.proofs.Common.{◌≡◌, ℕ, nat_lt, ◌&&◌}
use Rattle.sb_priority.specs.Closed.{relates}
use Rattle.sb_priority.specs.Rows.{direct_of, before_of}
use Rattle.sb_priority.proofs.rows.spread.Given as goal

-- the rows before this one are taken over
abbrev pub invariant-loop-number : goal.invariant-loop-number
invariant-loop-number l = record {
  direct : (a b : ℕ) → relates l.direct a b ≡ (nat_lt b l.number && relates (direct_of l.rows) a b);
  before : (a b : ℕ) → relates l.before a b ≡ (nat_lt b l.number && relates (before_of l.rows) a b);
}
