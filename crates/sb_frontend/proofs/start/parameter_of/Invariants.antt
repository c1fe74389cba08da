use Rattle.std.proofs.Common.{◌≡◌, length, map}
use Rattle.sb_postgres.specs.Startup.{pair_seen}
use Rattle.sb_frontend.specs.Starts.{parameter_of}
use Rattle.sb_frontend.proofs.start.parameter_of.Given as goal

abbrev pub invariant-loop-left : goal.invariant-loop-left
invariant-loop-left l = parameter_of l.name (map pair_seen l.left) ≡ parameter_of l.name (map pair_seen l.parameters)

abbrev pub decreases-loop-left : goal.decreases-loop-left
decreases-loop-left l = length l.left
