use Rattle.std.proofs.Common.{◌≡◌, ◌∙◌, ap, sym, subst, true}
use Rattle.sb_connection.specs.ProtocolState.{Holds}
use Rattle.sb_connection.specs.Standing.{is_open}
use Rattle.sb_connection.proofs.Steps.{holds_ended}
use Rattle.sb_connection.proofs.connection.Connection.receive_end.Goals as goal

pub invariant_of-self : goal.invariant_of-self
invariant_of-self g c =
    let going : is_open c.self.inside.protocol_state.history.state ≡ true = ap (λ h. is_open h.state) c.self.view_is ∙ c.requires.0 in
    subst (Holds g.D.Doorkeeper.policy.admits) (sym c.end.ensures) (holds_ended g.D.Doorkeeper.policy.admits c.self.inside.protocol_state c.self.invariant going)
