use Rattle.std.proofs.Common.{refl}
use Rattle.sb_frontend.specs.declared.phase.Phase.TheVariants.{Ready}
use Rattle.sb_frontend.specs.Standings.{Standing}
use Rattle.sb_frontend.proofs.Conversing.{talking}
use Rattle.sb_frontend.proofs.Extending.{synchronized}
use Rattle.sb_frontend.proofs.conversation.Conversation.synchronize.Goals as goal

pub returns : goal.returns
returns g c =
    let before : Standing = record { phase = c.self.inside.phase; spot = c.self.inside.speaker; work = c.self.inside.work } in
    let begun : Standing = record { phase = Ready; spot = c.self.inside.speaker; work = c.self.inside.work } in
    rw (← c.self.view_is) (synchronized (talking before c.self.inside.out) (talking begun c.self.inside.out) c.commit.new.self c.leave_portals.new.self c.say_ready.new.self refl c.commit.ensures.told c.commit.ensures.same c.leave_portals.ensures c.say_ready.ensures.said c.say_ready.ensures.at)
