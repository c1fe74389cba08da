use Rattle.sb_frontend.specs.Conversations.{Standing}
use Rattle.sb_frontend.proofs.Conversing.{not-queried, queried, talking}
use Rattle.sb_frontend.proofs.conversation.Conversation.query.Goals as goal

pub returns-in_default : goal.returns-in_default
returns-in_default g c =
    let at : Standing = record { phase = c.self.inside.phase; spot = c.self.inside.speaker; work = c.self.inside.work } in
    rw (← c.self.view_is) (not-queried c.args.text.now (talking at c.self.inside.out) c.in_default.is)

pub returns : goal.returns
returns g c =
    let at : Standing = record { phase = c.self.inside.phase; spot = c.self.inside.speaker; work = c.self.inside.work } in
    rw (← c.self.view_is) (queried c.args.text.now (talking at c.self.inside.out) c.say_ready.new.self c.in-Some.speaker c.play_query.new.self c.play_query.new.out c.in-Some.is c.play_query.ensures c.say_ready.ensures.said c.say_ready.ensures.at)
