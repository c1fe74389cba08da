use Rattle.std.proofs.Common.{◌≡◌, map, take}
use Rattle.sb_plan.specs.Scopes.{value_seen}
use Rattle.sb_eval.proofs.change.AssignedRow.new.Given as goal

-- the values so far are there
abbrev pub invariant-loop-value : goal.invariant-loop-value
invariant-loop-value l = map value_seen l.list.items ≡ take l.value-index l.values
