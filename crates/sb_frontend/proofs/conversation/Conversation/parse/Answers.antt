use Rattle.sb_postgres.specs.Answers.{ParseComplete}
use Rattle.sb_frontend.specs.Portals.{prepared}
use Rattle.sb_frontend.specs.Standings.{Standing}
use Rattle.sb_frontend.proofs.Conversing.{talking}
use Rattle.sb_frontend.proofs.Extending.{ends, parsed}
use Rattle.sb_frontend.proofs.conversation.Conversation.parse.Goals as goal

pub returns : goal.returns
returns g c =
    let before : Standing = record { phase = c.self.inside.phase; spot = c.self.inside.speaker; work = c.self.inside.work } in
    let old = talking before c.self.inside.out in
    let made = c.prepared-made.result in
    rw (← c.self.view_is) (parsed c.args.name.now c.args.text.now c.args.types.now made old c.end_with.new.self c.prepared-made.ensures
    (ends ParseComplete (prepared c.args.name.now made c.self.inside.work) old c.end_with.new.self c.prepare-done.new.self c.prepare-done.result c.prepare-done.ensures.stored c.prepare-done.ensures.kept c.end_with.ensures))
