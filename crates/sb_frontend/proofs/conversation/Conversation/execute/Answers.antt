use Rattle.std.proofs.Common.{Some, None, Ok, Err, ap, ◌∙◌}
use Rattle.sb_postgres.specs.Answers.{EmptyQueryResponse}
use Rattle.sb_frontend.specs.Outcomes.{with_line}
use Rattle.sb_frontend.specs.Standings.{Standing}
use Rattle.sb_frontend.proofs.Conversing.{talking}
use Rattle.sb_frontend.proofs.Extending.{executed, runs-denied, runs-line, runs-none}
use Rattle.sb_frontend.proofs.conversation.Conversation.execute.Goals as goal

pub returns-in-Ok-Some : goal.returns-in-Ok-Some
returns-in-Ok-Some g c =
    let before : Standing = record { phase = c.self.inside.phase; spot = c.self.inside.speaker; work = c.self.inside.work } in
    let old = talking before c.self.inside.out in
    let work = c.start.new.self in
    let line = c.in-Ok-Some.statement.line.items in
    rw (← c.self.view_is) (executed c.args.name.now c.args.rows old c.run.new.self (with_line work c.start.result) (Ok (Some line, work)) c.start.ensures.started
    (ap (with_line work) (c.in-Ok-Some.is ∙ ap (λ o. Ok o) c.in-Ok-Some.field-0-is)) (runs-line line work old c.run.new.self c.run.ensures))

pub returns-in-Ok-None : goal.returns-in-Ok-None
returns-in-Ok-None g c =
    let before : Standing = record { phase = c.self.inside.phase; spot = c.self.inside.speaker; work = c.self.inside.work } in
    let old = talking before c.self.inside.out in
    let work = c.start.new.self in
    let behind : Standing = record { phase = c.self.inside.phase; spot = c.self.inside.speaker; work = work } in
    rw (← c.self.view_is) (executed c.args.name.now c.args.rows old (talking behind c.say.new.self) (with_line work c.start.result) (Ok (None, work)) c.start.ensures.started
    (ap (with_line work) (c.in-Ok-None.is ∙ ap (λ o. Ok o) c.in-Ok-None.field-0-is)) (runs-none work old c.say.new.self EmptyQueryResponse c.say.ensures))

pub returns-in-Err : goal.returns-in-Err
returns-in-Err g c =
    let before : Standing = record { phase = c.self.inside.phase; spot = c.self.inside.speaker; work = c.self.inside.work } in
    let old = talking before c.self.inside.out in
    let work = c.start.new.self in
    rw (← c.self.view_is) (executed c.args.name.now c.args.rows old c.deny.new.self (with_line work c.start.result) (Err c.in-Err.denial) c.start.ensures.started
    (ap (with_line work) c.in-Err.is) (runs-denied c.in-Err.denial work old c.deny.new.self c.in-Err.ensures.kept c.deny.ensures))
