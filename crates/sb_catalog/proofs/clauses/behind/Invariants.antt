-- The word, if it is there, is among the tokens that are left.
use Rattle.std.proofs.Common.{◌≡◌, length}
use Rattle.sb_catalog.specs.ClauseCuts as spec
use Rattle.sb_catalog.proofs.clauses.behind.Given as goal

abbrev pub invariant-loop-rest : goal.invariant-loop-rest
invariant-loop-rest l = spec.behind l.fn.word l.fn.tokens ≡ spec.behind l.fn.word l.rest

abbrev pub decreases-loop-rest : goal.decreases-loop-rest
decreases-loop-rest l = length l.rest
