use Rattle.std.proofs.Common.{◌∙◌, ap, subst, sym}
use Rattle.sb_connection.specs.ProtocolState.{Answers, Talking, talk}
use Rattle.sb_connection.specs.Responses.{over}
use Rattle.sb_connection.proofs.Steps.{answers_named}
use Rattle.sb_connection.proofs.protocol_state.ProtocolState.answer.Goals as goal

pub respond-requires : goal.respond-requires
respond-requires g c = ap (λ (k : Talking). over (talk k)) c.note_name.ensures ∙ c.requires

pub returns-clause-answers : goal.returns-clause-answers
returns-clause-answers g c =
    let admits = g.D.Doorkeeper.policy.admits in
    let answered = c.respond.new.self in
    subst (λ (k : Talking). Answers admits c.args.self.now k) (sym c.tell_answer.ensures)
    (answers_named admits c.args.self.now answered (subst (λ (k : Talking). Answers admits k answered) c.note_name.ensures c.respond.ensures.answers))

pub returns-clause-named : goal.returns-clause-named
returns-clause-named g c =
    ap (λ (k : Talking). k.history.named) c.tell_answer.ensures ∙ c.respond.ensures.named ∙ ap (λ (k : Talking). k.history.named) c.note_name.ensures
