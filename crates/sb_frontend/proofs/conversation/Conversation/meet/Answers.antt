use Rattle.std.proofs.Common.{ap, refl}
use Rattle.sb_frontend.specs.declared.phase.Phase.TheVariants.{Over}
use Rattle.sb_frontend.specs.Conversations.{Meets, Standing}
use Rattle.sb_frontend.specs.Demands.{End, Nothing, demanded}
use Rattle.sb_frontend.proofs.Conversing.{as-demanded, talking, tells-nothing}
use Rattle.sb_frontend.proofs.conversation.Conversation.meet.Goals as goal

pub returns-in-End : goal.returns-in-End
returns-in-End g c =
    let source = g.O.SessionSource.source in
    let before : Standing = record { phase = c.self.inside.phase; spot = c.self.inside.speaker; work = c.self.inside.work } in
    let behind : Standing = record { phase = Over; spot = c.self.inside.speaker; work = c.self.inside.work } in
    rw (← c.self.view_is) (as-demanded source (demanded c.args.demand) End (talking before c.self.inside.out) (talking behind c.self.inside.out) (ap demanded c.in-End.is)
    (tells-nothing (Meets source End) (talking before c.self.inside.out) behind (refl, refl)))

pub returns-in-Nothing : goal.returns-in-Nothing
returns-in-Nothing g c =
    let source = g.O.SessionSource.source in
    as-demanded source (demanded c.args.demand) Nothing c.args.self.now c.args.self.now (ap demanded c.in-Nothing.is) (tells-nothing (Meets source Nothing) c.args.self.now c.args.self.now.at (refl, refl))
