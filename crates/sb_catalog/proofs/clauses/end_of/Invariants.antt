-- What is left of the clause ends where the whole does.
use Rattle.std.proofs.Common.{◌≡◌, length}
use Rattle.sb_catalog.specs.ClauseCuts as spec
use Rattle.sb_catalog.proofs.clauses.end_of.Given as goal

abbrev pub invariant-loop-rest : goal.invariant-loop-rest
invariant-loop-rest l = spec.end_of l.fn.place (spec.inside l.fn.tokens) ≡ spec.end_of l.end (spec.inside l.rest)

abbrev pub decreases-loop-rest : goal.decreases-loop-rest
decreases-loop-rest l = length l.rest
