use Rattle.std.proofs.Common.{◌≡◌, map, take}
use Rattle.sb_plan.specs.Listed.{is_one}
use Rattle.sb_plan.proofs.ones.ones_of.Given as goal

-- the numbers so far are those of the first flags
abbrev pub invariant-loop-flag : goal.invariant-loop-flag
invariant-loop-flag l = map is_one l.numbers.items ≡ take l.flag-index l.flags
