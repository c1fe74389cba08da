use Rattle.std.proofs.Common.{◌-◌, ℕ, List, ◌&&◌}
use Rattle.sb_value.specs.Flags.{flag_at}
use Rattle.sb_priority.specs.Ranks.{HasOrder, ranked, is_free}
use Rattle.sb_priority.proofs.Earliest.{IsEarliest}
use Rattle.sb_priority.proofs.priorities.Priorities.choose.Given as goal

-- of the rules below the next number the earliest that is free is found
abbrev pub invariant-loop-rule : goal.invariant-loop-rule
invariant-loop-rule l =
    (pairs : List (ℕ × ℕ)) → HasOrder l.self pairs →
    IsEarliest (λ r. flag_at l.set r && is_free pairs (ranked l.set l.self.rules) r) l.self.rules l.next l.first

abbrev pub decreases-loop-rule : goal.decreases-loop-rule
decreases-loop-rule l = 256 - l.next
