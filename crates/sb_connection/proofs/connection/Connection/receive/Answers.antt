use Rattle.std.proofs.Common.{◌≡◌, ◌∙◌, ap, sym, subst, true}
use Rattle.std.specs.Prelude.{OnErr, OnOk, Ok, Err, Result}
use Rattle.sb_connection.specs.ProtocolState.{Holds, Talking}
use Rattle.sb_connection.specs.Policies.{Admits}
use Rattle.sb_connection.specs.Standing.{is_open}
use Rattle.sb_connection.proofs.Steps.{holds_received}
use Rattle.sb_connection.proofs.connection.Connection.receive.Goals as goal

-- as it is told
by_result : {T E : Type 0} (admits : Admits) (r : Result T E) (old new more : Talking) → Holds admits old → Holds admits more → OnOk r (new ≡ more) → OnErr r (new ≡ old) → Holds admits new
by_result admits (Ok x) old new more so then is same = subst (Holds admits) (sym is) then
by_result admits (Err e) old new more so then is same = subst (Holds admits) (sym same) so

pub invariant_of-self : goal.invariant_of-self
invariant_of-self g c =
    let going : is_open c.self.inside.protocol_state.history.state ≡ true = ap (λ h. is_open h.state) c.self.view_is ∙ c.requires.0 in
    by_result g.D.Doorkeeper.policy.admits c.receive.result c.self.inside.protocol_state c.receive.new.self _ c.self.invariant (holds_received g.D.Doorkeeper.policy.admits c.self.inside.protocol_state c.self.invariant going c.args.bytes.now) c.receive.ensures.ok c.receive.ensures.err
