use Rattle.sb_frontend.proofs.Whole.{answers}
use Rattle.sb_frontend.proofs.connection.FrontendConnection.advance.Goals as goal

pub invariant_of-self : goal.invariant_of-self
invariant_of-self g c = answers g.O.SessionSource.source c.self.inside.state c.advance.new.self c.advance.ensures.answers c.self.invariant
