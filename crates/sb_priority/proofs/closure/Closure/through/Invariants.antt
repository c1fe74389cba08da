use Rattle.std.proofs.Common.{◌≡◌, ℕ}
use Rattle.sb_value.specs.Flags.{flag_at}
use Rattle.sb_priority.specs.Closed.{relates, is_led}
use Rattle.sb_priority.proofs.closure.Closure.through.Given as goal

-- what the rules below this one lead from is found
abbrev pub invariant-loop-number : goal.invariant-loop-number
invariant-loop-number l = (a : ℕ) → flag_at l.through a ≡ is_led (flag_at l.row) (relates l.self a) a l.number
