use Rattle.sb_postgres.proofs.Grammar.{ends_as}
use Rattle.sb_postgres.proofs.query.statements.Statements.check.Goals as goal

pub returns : goal.returns
returns c = λ ls h. ends_as c.args.self.now.at c.args.self.now.text.now c.check_from.result ls c.check_from.ensures h
