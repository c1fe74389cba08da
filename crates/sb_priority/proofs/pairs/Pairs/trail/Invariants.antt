use Rattle.std.proofs.Common.{ℕ, List, map, take, ◌++◌}
use Rattle.sb_priority.specs.Closed.{HasPairs}
use Rattle.sb_priority.proofs.pairs.Pairs.trail.Given as goal

abbrev pub invariant-loop-other : goal.invariant-loop-other
invariant-loop-other l = (pairs : List (ℕ × ℕ)) → HasPairs l.initial.self pairs → HasPairs l.self (pairs ++ map (λ o. (o, l.rule)) (take l.other-index l.others))
