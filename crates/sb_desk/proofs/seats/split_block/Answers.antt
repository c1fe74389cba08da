use Rattle.std.proofs.Common.{arith}
use Rattle.sb_desk.proofs.SeatSteps.{cuts_block}
use Rattle.sb_desk.proofs.seats.split_block.Goals as goal

pub split_seat-requires : goal.split_seat-requires
split_seat-requires c = (c.requires.0, omega (arith, c.requires.1), cuts_block c.args.all.now.id c.args.all.now.me.0)
