use Rattle.sb_frontend.proofs.Conversing.{welcomed}
use Rattle.sb_frontend.proofs.conversation.Conversation.welcome.Goals as goal

pub returns-clause-said : goal.returns-clause-said
returns-clause-said g c =
    rw (← c.self.view_is) (welcomed c.args.number c.self.inside.speaker c.self.inside.out c.say.new.self c.say_settings.new.out c.say-2.new.self c.say_ready.new.self.out
    c.say.ensures c.say_settings.ensures c.say-2.ensures c.say_ready.ensures.said)
