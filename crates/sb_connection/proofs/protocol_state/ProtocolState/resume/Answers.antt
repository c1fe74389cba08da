use Rattle.std.proofs.Common.{ap, map, refl, subst, sym}
use Rattle.sb_connection.specs.Callers.{IsNewcomer}
use Rattle.sb_connection.specs.Responses.{stays_in}
use Rattle.sb_connection.proofs.Steps.{resumed_in}
use Rattle.sb_connection.proofs.protocol_state.ProtocolState.resume.Goals as goal

pub returns-clause-ok : goal.returns-clause-ok
returns-clause-ok g c =
    let absence = c.in-Some-absence.ensures in
    let s = g.H.Session.Calling.seen c.in_ok-session.session in
    let there = subst (λ session. IsNewcomer c.in-Some-absence.absence.tenant session s) absence.3 c.in_ok-session.ensures in
    let newcomer = subst (λ tenant. IsNewcomer tenant c.in-Some.caller.life.session s) absence.2 there in
    rw (← c.self.view_is) (resumed_in _ _ c.in-Some.caller c.resume.new.self s c.in-Some.is absence.0 absence.1 newcomer c.resume.ensures refl (ap (λ o. map (λ s. s.0) (stays_in o)) c.in-Some.is))
