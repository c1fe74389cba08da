use Rattle.std.proofs.Common.{◌<◌, ℕ}
use Rattle.sb_tenant.specs.Compared.{HaveSameBefore}
use Rattle.sb_tenant.proofs.alike.same_definitions.same_order.Given as goal

-- the rules up to here have the same rules before them
abbrev pub invariant-loop-number : goal.invariant-loop-number
invariant-loop-number l = (b : ℕ) → b < l.number → HaveSameBefore l.one.before l.other.before b
