use Rattle.std.proofs.Common.{ℕ, ◌<◌}
use Rattle.std.specs.Option.{IsSome}
use Rattle.sb_tables.specs.Filled.{slot_at}
use Rattle.sb_tables.proofs.slots.Slots.least_free.Given as goal

-- all smaller numbers have a table
abbrev pub invariant-loop-number : goal.invariant-loop-number
invariant-loop-number l = (k : ℕ) → k < l.number → IsSome (slot_at l.self k)
