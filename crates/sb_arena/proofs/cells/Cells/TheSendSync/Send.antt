use denote.RattleType.{RattleType}
use denote.Param.Send.{IsSend}
use Rattle.sb_arena.proofs.Crossing.{Cells-send}
use Rattle.sb_arena.specs.contracts.cells.Cells.{the_row}

pub send : (T : RattleType) → IsSend T → IsSend (the_row T)
send = Cells-send
