use Rattle.std.proofs.Common.{◌≡◌, length, map}
use Rattle.sb_postgres.specs.Kinds.{first_fitting}
use Rattle.sb_postgres.proofs.query.kind.first_fitting.Given as goal

abbrev pub invariant-loop-left : goal.invariant-loop-left
invariant-loop-left l = first_fitting (map (λ o. (o.0.now, o.1, o.2)) l.left) l.line ≡ first_fitting (map (λ o. (o.0.now, o.1, o.2)) l.openings) l.line

abbrev pub decreases-loop-left : goal.decreases-loop-left
decreases-loop-left l = length l.left
