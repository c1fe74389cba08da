use Rattle.std.proofs.Common.{◌≡◌, ℕ, nat_lt, not, ◌&&◌, ◌==◌}
use Rattle.sb_priority.specs.Closed.{relates}
use Rattle.sb_priority.proofs.pairs.linked_without.Given as goal

-- the rows before this one are linked
abbrev pub invariant-loop-number : goal.invariant-loop-number
invariant-loop-number l =
    (a b : ℕ) → relates l.kept a b ≡ (nat_lt b l.number && (relates l.rows a b && (not (a == l.dropped) && not (b == l.dropped))))
