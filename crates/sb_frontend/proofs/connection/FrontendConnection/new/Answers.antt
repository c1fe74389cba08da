use Rattle.std.proofs.Common.{subst, sym}
use Rattle.sb_frontend.specs.Dialogues.{Converses}
use Rattle.sb_frontend.proofs.Whole.{begun}
use Rattle.sb_frontend.proofs.connection.FrontendConnection.new.Goals as goal

pub invariant_of-result : goal.invariant_of-result
invariant_of-result g c = let source = g.O.SessionSource.source in subst (Converses source) (sym c.new.ensures) (begun source)
