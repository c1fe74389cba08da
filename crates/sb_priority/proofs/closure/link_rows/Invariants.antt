use Rattle.std.proofs.Common.{◌≡◌, ◌<◌, ◌≤◌, ℕ, [], get_or, ◌&&◌, ◌||◌, ◌==◌}
use Rattle.sb_value.specs.Flags.{flag_at}
use Rattle.sb_priority.specs.Closed.{relates}
use Rattle.sb_priority.proofs.closure.link_rows.Given as goal

-- the rows before this one are linked, and the others are as they were
abbrev pub invariant-loop-number : goal.invariant-loop-number
invariant-loop-number l = record {
  linked : (a b : ℕ) → b < l.number → relates l.rows a b ≡ (relates l.initial.rows a b || (flag_at l.through a && ((l.second == b) || relates l.initial.rows l.second b)));
  kept : (b : ℕ) → l.number ≤ b → get_or l.rows b [] ≡ get_or l.initial.rows b [];
}
