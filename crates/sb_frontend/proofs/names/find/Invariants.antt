use Rattle.std.proofs.Common.{◌≡◌, length}
use Rattle.sb_frontend.specs.Names.{named, seen}
use Rattle.sb_frontend.proofs.names.find.Given as goal

abbrev pub invariant-loop-left : goal.invariant-loop-left
invariant-loop-left g l = named l.name (seen l.left) ≡ named l.name (seen l.list)

abbrev pub decreases-loop-left : goal.decreases-loop-left
decreases-loop-left g l = length l.left
