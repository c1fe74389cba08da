use Rattle.std.proofs.Common.{◌≡◌, subst, true}
use Rattle.std.specs.Prelude.{IfNone}
use Rattle.sb_connection.specs.History.{History, Transacts}
use Rattle.sb_connection.proofs.Steps.{closed_there, conversed, holds_after, transacting_still}
use Rattle.sb_connection.proofs.connection.Connection.suspend.Goals as goal

pub invariant_of-self : goal.invariant_of-self
invariant_of-self g c = holds_after g.D.Doorkeeper.policy.admits c.suspend.result c.self.inside.protocol_state c.suspend.new.self c.self.invariant c.suspend.ensures.some c.suspend.ensures.none

pub returns-clause-conversation : goal.returns-clause-conversation
returns-clause-conversation g c = conversed g.D.Doorkeeper.policy.admits c.suspend.result c.self.inside.protocol_state c.suspend.new.self c.self.invariant c.suspend.ensures.some

pub returns-clause-closed : goal.returns-clause-closed
returns-clause-closed g c = closed_there g.D.Doorkeeper.policy.admits c.suspend.result c.self.inside.protocol_state c.suspend.new.self c.self.invariant c.suspend.ensures.some

pub returns-clause-why : goal.returns-clause-why
returns-clause-why g c = subst (λ (h : History). IfNone c.suspend.result (h.attached ≡ true → Transacts h true)) c.self.view_is
    (transacting_still g.D.Doorkeeper.policy.admits c.self.inside.protocol_state c.self.invariant c.suspend.result c.suspend.ensures.why)
