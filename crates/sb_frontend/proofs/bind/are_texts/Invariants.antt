use Rattle.std.proofs.Common.{◌≡◌, length}
use Rattle.sb_frontend.specs.Portals.{are_texts}
use Rattle.sb_frontend.proofs.bind.are_texts.Given as goal

abbrev pub invariant-loop-left : goal.invariant-loop-left
invariant-loop-left l = are_texts l.left ≡ are_texts l.formats

abbrev pub decreases-loop-left : goal.decreases-loop-left
decreases-loop-left l = length l.left
