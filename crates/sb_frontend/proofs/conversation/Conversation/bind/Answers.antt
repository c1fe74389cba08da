use Rattle.sb_postgres.specs.Answers.{BindComplete}
use Rattle.sb_frontend.specs.Portals.{bound}
use Rattle.sb_frontend.specs.Standings.{Standing}
use Rattle.sb_frontend.proofs.Conversing.{talking}
use Rattle.sb_frontend.proofs.Extending.{bound-made, ends}
use Rattle.sb_frontend.proofs.conversation.Conversation.bind.Goals as goal

pub returns : goal.returns
returns g c =
    let before : Standing = record { phase = c.self.inside.phase; spot = c.self.inside.speaker; work = c.self.inside.work } in
    let old = talking before c.self.inside.out in
    rw (← c.self.view_is) (bound-made c.args.name.now c.args.made old c.end_with.new.self
    (ends BindComplete (bound c.args.name.now c.args.made c.self.inside.work) old c.end_with.new.self c.bind-done.new.self c.bind-done.result c.bind-done.ensures.stored c.bind-done.ensures.kept c.end_with.ensures))
