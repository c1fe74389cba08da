use Rattle.std.proofs.Common.{◌≡◌, ◌+◌, ◌^◌, min, take}
use Rattle.sb_syntax.specs.Literal.{decimal}
use Rattle.sb_syntax.proofs.literal.decimal.Given as goal

abbrev pub invariant-loop-b : goal.invariant-loop-b
invariant-loop-b l = l.n ≡ min (decimal (take l.b-index l.digits)) (2 ^ 63 + 1)
