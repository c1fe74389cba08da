use Rattle.sb_frontend.specs.Standings.{Standing}
use Rattle.sb_frontend.proofs.Conversing.{talking}
use Rattle.sb_frontend.proofs.Extending.{not-run, ran-well}
use Rattle.sb_frontend.proofs.conversation.Conversation.run.Goals as goal

pub returns-in_default : goal.returns-in_default
returns-in_default g c =
    let at : Standing = record { phase = c.self.inside.phase; spot = c.self.inside.speaker; work = c.self.inside.work } in
    rw (← c.self.view_is) (not-run c.args.statement.now.line.items (talking at c.self.inside.out) c.in_default.is)

pub returns-then-play_one : goal.returns-then-play_one
returns-then-play_one g c =
    let at : Standing = record { phase = c.self.inside.phase; spot = c.self.inside.speaker; work = c.self.inside.work } in
    rw (← c.self.view_is) (ran-well c.args.statement.now.line.items (talking at c.self.inside.out) c.in-Some.speaker c.play_one.new.self c.forget.new.self c.play_one.new.out c.complete.new.self c.play_one.result c.in-Some.is c.forget.ensures c.play_one.ensures c.if-play_one.true c.complete.ensures.told)
