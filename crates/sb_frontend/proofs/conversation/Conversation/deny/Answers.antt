use Rattle.std.proofs.Common.{refl}
use Rattle.sb_frontend.specs.declared.phase.Phase.TheVariants.{Skipping}
use Rattle.sb_frontend.specs.Standings.{Standing}
use Rattle.sb_frontend.proofs.Conversing.{talking}
use Rattle.sb_frontend.proofs.Extending.{denied}
use Rattle.sb_frontend.proofs.conversation.Conversation.deny.Goals as goal

pub returns : goal.returns
returns g c =
    let before : Standing = record { phase = c.self.inside.phase; spot = c.self.inside.speaker; work = c.self.inside.work } in
    let behind : Standing = record { phase = Skipping; spot = c.self.inside.speaker; work = c.self.inside.work } in
    rw (← c.self.view_is) (denied c.args.denial (talking before c.self.inside.out) c.give_up.new.self c.tell_denial.new.out behind c.tell_denial.ensures refl c.give_up.ensures.given c.give_up.ensures.same)
