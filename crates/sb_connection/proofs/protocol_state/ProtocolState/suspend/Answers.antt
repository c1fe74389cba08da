use Rattle.std.proofs.Common.{ap, map, refl}
use Rattle.sb_connection.specs.Responses.{stays_in}
use Rattle.sb_connection.proofs.Steps.{suspended_in}
use Rattle.sb_connection.proofs.protocol_state.ProtocolState.suspend.Goals as goal

pub returns-clause-some : goal.returns-clause-some
returns-clause-some g c = rw (← c.self.view_is) (suspended_in c.suspend.result _ _ c.in-Some.caller c.suspend.new.self c.in-Some.is c.suspend.ensures.some refl (ap (λ o. map (λ s. s.0) (stays_in o)) c.in-Some.is))
