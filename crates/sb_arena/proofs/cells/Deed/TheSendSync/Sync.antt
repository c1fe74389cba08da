use denote.RattleType.{RattleType}
use denote.Param.Send.{IsSync}
use Rattle.core.specs.declared.alloc.Allocator.{Ghosts}
use Rattle.sb_arena.proofs.Crossing.{Deed-sync}
use Rattle.sb_arena.specs.contracts.cells.Deed.{the_row}

pub sync : (T A : RattleType) (g : Ghosts A.Denot) → IsSync (the_row T A g)
sync = Deed-sync
