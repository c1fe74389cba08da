use Rattle.std.proofs.Common.{subst, sym}
use Rattle.sb_frontend.specs.Dialogues.{Converses}
use Rattle.sb_frontend.proofs.Whole.{ended}
use Rattle.sb_frontend.proofs.connection.FrontendConnection.receive_end.Goals as goal

pub invariant_of-self : goal.invariant_of-self
invariant_of-self g c = let source = g.O.SessionSource.source in subst (Converses source) (sym c.receive_end.ensures) (ended source c.self.inside.state c.self.invariant)
