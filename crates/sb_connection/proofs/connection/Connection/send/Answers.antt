use Rattle.std.proofs.Common.{◌≡◌, ℕ, sym, subst}
use Rattle.std.specs.Prelude.{IfOk, OnErr, Ok, Err, Result}
use Rattle.std.specs.declared.io.Error.{Error}
use Rattle.sb_connection.specs.History.{after_sending}
use Rattle.sb_connection.specs.ProtocolState.{Holds, Talking}
use Rattle.sb_connection.specs.Policies.{Admits}
use Rattle.sb_connection.proofs.Steps.{holds_sent}
use Rattle.sb_connection.proofs.connection.Connection.send.Goals as goal

-- some is sent, or none
by_result : (admits : Admits) (r : Result ℕ Error) (old new : Talking) → Holds admits old → IfOk r (λ n. new ≡ record old { history = after_sending old.history n }) → OnErr r (new ≡ old) → Holds admits new
by_result admits (Ok n) old new so is same = subst (Holds admits) (sym is) (holds_sent admits old so n)
by_result admits (Err e) old new so is same = subst (Holds admits) (sym same) so

pub invariant_of-self : goal.invariant_of-self
invariant_of-self g c = by_result g.D.Doorkeeper.policy.admits c.send.result c.self.inside.protocol_state c.send.new.self c.self.invariant c.send.ensures.sent c.send.ensures.unsent
