use Rattle.std.proofs.Common.{◌≡◌, ◌<◌, ℕ}
use Rattle.sb_value.specs.Flags.{flag_at}
use Rattle.sb_tenant.proofs.alike.same_definitions.same_set.Given as goal

-- the sets have the same numbers up to here
abbrev pub invariant-loop-number : goal.invariant-loop-number
invariant-loop-number l = (k : ℕ) → k < l.number → flag_at l.one k ≡ flag_at l.other k
