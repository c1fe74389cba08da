use Rattle.sb_desk.proofs.SeatSteps.{begins}
use Rattle.sb_desk.proofs.seats.open_seats.Goals as goal

pub of_words-requires : goal.of_words-requires
of_words-requires c = begins c.args.count
