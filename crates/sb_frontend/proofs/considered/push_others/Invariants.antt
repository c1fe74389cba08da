use Rattle.std.proofs.Common.{◌≡◌, ◌++◌, codes, take}
use Rattle.std.specs.List.{flat_map}
use Rattle.sb_frontend.specs.Considerations.{considered}
use Rattle.sb_frontend.proofs.considered.push_others.Given as goal

abbrev pub invariant-loop-one : goal.invariant-loop-one
invariant-loop-one l = l.out.items ≡ l.fn.out.items ++ flat_map (λ d. codes ", " ++ considered d) (take l.one-index l.considered)
