use Rattle.std.proofs.Common.{◌≡◌, length}
use Rattle.sb_postgres.specs.Templates.{number_behind}
use Rattle.sb_postgres.proofs.query.parameter.number_in.Given as goal

-- the digits that are left make it the number of all
abbrev pub invariant-loop-left : goal.invariant-loop-left
invariant-loop-left l = number_behind l.before l.left ≡ number_behind 0 l.digits

abbrev pub decreases-loop-left : goal.decreases-loop-left
decreases-loop-left l = length l.left
