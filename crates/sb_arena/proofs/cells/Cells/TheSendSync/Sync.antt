use denote.RattleType.{RattleType}
use denote.Param.Send.{IsSync}
use Rattle.sb_arena.proofs.Crossing.{Cells-sync}
use Rattle.sb_arena.specs.contracts.cells.Cells.{the_row}

pub sync : (T : RattleType) → IsSync T → IsSync (the_row T)
sync = Cells-sync
