use Rattle.std.proofs.Common.{◌≡◌, ◌∙◌, ap, refl, subst, sym}
use Rattle.sb_wire.specs.Lines.{last_piece}
use Rattle.sb_connection.specs.ProtocolState.{Finishes, IsNamedBy, Talking}
use Rattle.sb_connection.proofs.Steps.{finishes_line, finishes_nothing, named_last}
use Rattle.sb_connection.proofs.protocol_state.ProtocolState.answer_last.Goals as goal

-- the line is answered, and no other one comes
pub returns-clause-finishes : goal.returns-clause-finishes
returns-clause-finishes g c =
    let admits = g.D.Doorkeeper.policy.admits in
    let some = c.in-Some.ensures ∙ ap (λ (k : Talking). last_piece k.opened) c.self.view_is in
    subst (λ (k : Talking). Finishes admits c.args.self.now k) (sym c.end_lines.ensures)
    (finishes_line c.args.self.now c.answer.new.self _ some admits c.requires c.answer.ensures.answers)

pub returns-clause-named : goal.returns-clause-named
returns-clause-named g c =
    let some = c.in-Some.ensures ∙ ap (λ (k : Talking). last_piece k.opened) c.self.view_is in
    subst (λ (k : Talking). IsNamedBy c.args.self.now (last_piece c.args.self.now.opened) k) (sym c.end_lines.ensures)
    (named_last c.args.self.now c.answer.new.self _ some c.answer.ensures.named)

-- none stands open there
pub returns-in_default-clause-finishes : goal.returns-in_default-clause-finishes
returns-in_default-clause-finishes g c = rw (← c.self.view_is) (finishes_nothing g.D.Doorkeeper.policy.admits _ (sym c.in_default.ensures) refl)
