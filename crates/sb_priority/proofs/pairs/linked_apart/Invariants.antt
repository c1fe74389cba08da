use Rattle.std.proofs.Common.{◌≡◌, ℕ, nat_lt, not, ◌&&◌}
use Rattle.sb_priority.specs.Closed.{relates}
use Rattle.sb_priority.specs.Ranks.{is_between}
use Rattle.sb_priority.proofs.pairs.linked_apart.Given as goal

-- the rows before this one are linked
abbrev pub invariant-loop-number : goal.invariant-loop-number
invariant-loop-number l = (a b : ℕ) → relates l.kept a b ≡ (nat_lt b l.number && (relates l.rows a b && not (is_between l.rule l.others a b)))
