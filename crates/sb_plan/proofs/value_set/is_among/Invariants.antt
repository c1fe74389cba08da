use Rattle.std.proofs.Common.{◌≡◌, map, drop}
use Rattle.sb_plan.specs.Scopes.{value_seen}
use Rattle.sb_plan.specs.ValueSet.{is_among}
use Rattle.sb_plan.proofs.value_set.is_among.Given as goal

-- the value is not among those so far
abbrev pub invariant-loop-value : goal.invariant-loop-value
invariant-loop-value l =
    is_among (value_seen l.wanted) (map value_seen l.list) ≡ is_among (value_seen l.wanted) (map value_seen (drop l.value-index l.list))
