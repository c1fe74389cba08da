use Rattle.std.proofs.Common.{◌≡◌, ◌++◌, take, map}
use Rattle.sb_check.proofs.items.push_types.Given as goal

abbrev pub invariant-loop-column : goal.invariant-loop-column
invariant-loop-column l = l.types ≡ l.initial.types ++ map (λ c. c.of) (take l.column-index l.columns)
