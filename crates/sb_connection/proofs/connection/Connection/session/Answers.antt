use Rattle.std.proofs.Common.{◌≡◌, ◌∙◌, ap, refl, subst, sym}
use Rattle.std.specs.Prelude.{IfSome, Option, Some, None}
use Rattle.sb_connection.specs.History.{History, IsSessionOf}
use Rattle.sb_connection.specs.declared.first_line.SessionName.{SessionName}
use Rattle.sb_connection.proofs.Steps.{session_named}
use Rattle.sb_connection.proofs.connection.Connection.session.Goals as goal

-- if it names one
by_name : (h : History) (o : Option SessionName) → ((named : SessionName) → o ≡ Some named → IsSessionOf h named) → IfSome o (IsSessionOf h)
by_name h None names = tt
by_name h (Some named) names = names named refl

pub returns-in-Some-clause-named : goal.returns-in-Some-clause-named
returns-in-Some-clause-named g c =
    let k = c.self.inside.protocol_state in
    let same = ap (λ inside. inside.protocol_state.history.named) c.self-inside.view_is in
    subst (λ (h : History). IfSome c.self-inside.inside.0.0.named (IsSessionOf h)) c.self.view_is
    (by_name k.history c.self-inside.inside.0.0.named (λ named is. session_named g.D.Doorkeeper.policy.admits k c.self.invariant named (sym same ∙ is)))
