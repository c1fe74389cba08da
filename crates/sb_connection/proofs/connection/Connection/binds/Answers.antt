use Rattle.std.proofs.Common.{◌≡◌, ◌∙◌, ap, subst, true}
use Rattle.sb_connection.specs.History.{BindsAtMost, History}
use Rattle.sb_connection.proofs.Steps.{binding_now}
use Rattle.sb_connection.proofs.connection.Connection.binds.Goals as goal

pub returns-clause-others : goal.returns-clause-others
returns-clause-others g c = λ attached.
    let k = c.self.inside.protocol_state in
    subst BindsAtMost c.self.view_is (binding_now g.D.Doorkeeper.policy.admits k c.self.invariant (ap (λ (h : History). h.attached) c.self.view_is ∙ attached))
