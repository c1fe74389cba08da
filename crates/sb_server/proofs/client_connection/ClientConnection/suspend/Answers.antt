use Rattle.std.proofs.Common.{◌∙◌, ap}
use Rattle.sb_server.proofs.Carrying.{carries_suspended, hosted_suspended, suspends}
use Rattle.sb_server.proofs.Renewed.{is_detached, left_volume}
use Rattle.sb_server.proofs.client_connection.ClientConnection.suspend.Goals as goal

pub invariant_of-self : goal.invariant_of-self
invariant_of-self g c =
    let old = c.args.self.now in
    let new = c.suspend.new.self in
    let is = suspends c.suspend.result old.connection new c.suspend.ensures.some c.suspend.ensures.none in
    record {
      carries = carries_suspended (g.S.Stream.traffic old.stream) old.connection new old.is_cut old.carries is;
      keyed = ap (λ h. h.keyed) (hosted_suspended old.connection new is) ∙ old.keyed;
    }

-- the receipts of the volume that it left
pub returns-clause-left : goal.returns-clause-left
returns-clause-left g c =
    let old = c.args.self.now in
    let new = c.suspend.new.self in
    let t = g.S.Stream.traffic old.stream in
    let is = suspends c.suspend.result old.connection new c.suspend.ensures.some c.suspend.ensures.none in
    left_volume g.D.Doorkeeper.policy c.suspend.result t old.connection new old.is_cut (carries_suspended t old.connection new old.is_cut old.carries is) c.suspend.ensures.some
    c.suspend.ensures.conversation c.suspend.ensures.closed (ap (λ h. h.keyed) (hosted_suspended old.connection new is) ∙ old.keyed)

pub returns-clause-detached : goal.returns-clause-detached
returns-clause-detached g c = is_detached c.suspend.result c.args.self.now.connection c.suspend.new.self c.suspend.ensures.some c.suspend.ensures.attached
