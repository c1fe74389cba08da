use Rattle.std.proofs.Common.{◌≡◌, take}
use Rattle.sb_status.specs.Pages.{rendered}
use Rattle.sb_status.proofs.fragment.render.Given as goal

abbrev pub invariant-loop-piece : goal.invariant-loop-piece
invariant-loop-piece l = l.out.items ≡ rendered l.escaping (take l.piece-index l.pieces)
