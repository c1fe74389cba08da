use Rattle.std.proofs.Common.{subst, rules, arith, Bool, drop}
use Rattle.sb_connection.specs.ProtocolState.{Adds}
use Rattle.sb_connection.proofs.Binding.{bound_by}
use Rattle.sb_connection.proofs.Steps.{adds_by}
use Rattle.sb_connection.proofs.protocol_state.ProtocolState.respond.Goals as goal

-- what is said stands behind what waits
pub returns-clause-answers : goal.returns-clause-answers
returns-clause-answers g c =
    let said = c.respond-answered.ensures in
    let inside = c.self.inside in
    let out = c.respond-answered.new.out in
    let added =
    subst (λ (b : Bool). Adds c.state_after-self-inside.result (drop inside.sent inside.output.items) said.0 (drop inside.sent out.items) b) c.is_over-is_over.ensures
    (adds_by c.respond-answered.result c.state_after-self-inside.result c.is_over-is_over.result inside.sent inside.output.items said.0 out.items (omega (arith, c.self.invariant.1)) c.state_after-self-inside.ensures.failed c.state_after-self-inside.ensures.done said.2 said.3) in
    rw (← c.self.view_is) (record {
      text = said.0;
      responds = search rules;
      adds = added;
      binds = bound_by _ inside.bound inside.sent _ out.items (search rules);
      attached = search rules;
      stays_are = search rules;
      waits_are = search rules;
      streams = search rules;
      waiting = search rules;
      opened = search rules;
    })
