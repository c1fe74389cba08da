use Rattle.std.proofs.Common.{subst}
use Rattle.sb_frontend.specs.Dialogues.{Converses}
use Rattle.sb_frontend.proofs.connection.FrontendConnection.into_session.Goals as goal

pub returns-clause-conversation : goal.returns-clause-conversation
returns-clause-conversation g c = subst (Converses g.O.SessionSource.source) c.self.view_is c.self.invariant
