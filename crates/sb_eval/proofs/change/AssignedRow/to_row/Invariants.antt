use Rattle.std.proofs.Common.{◌≡◌, map, take}
use Rattle.sb_plan.specs.Scopes.{value_seen}
use Rattle.sb_eval.proofs.change.AssignedRow.to_row.Given as goal

-- the values so far are there
abbrev pub invariant-loop-value : goal.invariant-loop-value
invariant-loop-value l = l.row ≡ map value_seen (take l.value-index l.value-items)
