use Rattle.sb_connection.proofs.Steps.{holds_by}
use Rattle.sb_connection.proofs.connection.Connection.resume.Goals as goal

pub invariant_of-self : goal.invariant_of-self
invariant_of-self g c = holds_by g.D.Doorkeeper.policy.admits c.resume.result c.self.inside.protocol_state c.resume.new.self c.self.invariant c.resume.ensures.ok c.resume.ensures.err
