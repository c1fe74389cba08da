use Rattle.std.proofs.Common.{take}
use Rattle.sb_plan.specs.ValueSet.{AreKeysOf}
use Rattle.sb_plan.proofs.value_set.keys_of.Given as goal

-- the flags tell of the values so far
abbrev pub invariant-loop-value : goal.invariant-loop-value
invariant-loop-value l = AreKeysOf (take l.value-index l.values) l.keys
