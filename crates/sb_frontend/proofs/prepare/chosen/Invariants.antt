use Rattle.std.proofs.Common.{◌≡◌}
use Rattle.sb_frontend.specs.Portals.{chosen}
use Rattle.sb_frontend.proofs.prepare.chosen.Given as goal

abbrev pub invariant-loop-k : goal.invariant-loop-k
invariant-loop-k l = l.types.items ≡ chosen l.k l.given l.known
