use Rattle.std.proofs.Common.{◌≡◌, ◌∙◌, ap, refl, subst, sym, true, Bool, Option, Some}
use Rattle.std.specs.Option.{option_map_or}
use Rattle.std.specs.Prelude.{is_some}
use Rattle.sb_connection.specs.History.{History, Transacts}
use Rattle.sb_connection.proofs.Admitting.{some_from}
use Rattle.sb_connection.proofs.Steps.{transacting_now}
use Rattle.sb_connection.proofs.connection.Connection.has_transaction.Goals as goal

pub returns-clause-session : goal.returns-clause-session
returns-clause-session g c = λ attached.
    let k = c.self.inside.protocol_state in
    subst (λ (h : History). Transacts h c.has_transaction.result) c.self.view_is
    (transacting_now g.D.Doorkeeper.policy.admits k c.self.invariant (ap (λ (h : History). h.attached) c.self.view_is ∙ attached) c.has_transaction.result c.has_transaction.ensures.is)
