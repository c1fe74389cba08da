use Rattle.sb_frontend.specs.Starts.{AreInUse}
use Rattle.sb_frontend.proofs.start.open_least.Given as goal

abbrev pub invariant-loop-number : goal.invariant-loop-number
invariant-loop-number g l = AreInUse g.O.SessionSource.source l.tenant l.number
