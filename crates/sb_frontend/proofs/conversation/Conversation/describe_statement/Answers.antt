use Rattle.std.proofs.Common.{ap, sym, ◌∙◌}
use Rattle.std.specs.Prelude.{option_copied}
use Rattle.sb_frontend.specs.Names.{named}
use Rattle.sb_frontend.specs.Standings.{Standing}
use Rattle.sb_frontend.specs.Talking.{Talking}
use Rattle.sb_frontend.proofs.Conversing.{talking}
use Rattle.sb_frontend.proofs.Extending.{describes-prepared, describes-no-statement}
use Rattle.sb_frontend.proofs.conversation.Conversation.describe_statement.Goals as goal

pub returns-in-Some : goal.returns-in-Some
returns-in-Some g c =
    let before : Standing = record { phase = c.self.inside.phase; spot = c.self.inside.speaker; work = c.self.inside.work } in
    rw (← c.self.view_is) (describes-prepared _ c.in-Some.prepared.now (talking before c.self.inside.out) c.describe_prepared.new.out (sym c.statement.ensures ∙ ap option_copied c.in-Some.is) c.describe_prepared.ensures)

pub returns : goal.returns
returns g c =
    let found = ap (λ (t : Talking). named c.args.name.now t.at.work.statements) (sym c.self.view_is) ∙ (sym c.statement.ensures ∙ ap option_copied c.in-None.is) in
    describes-no-statement (named c.args.name.now c.args.self.now.at.work.statements) c.args.self.now c.deny.new.self found c.deny.ensures
