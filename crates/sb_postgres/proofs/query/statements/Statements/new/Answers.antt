use Rattle.sb_postgres.specs.Cutting.{lines_from}
use Rattle.sb_postgres.proofs.Grammar.{lines-are, lines-same}
use Rattle.sb_postgres.proofs.query.statements.Statements.new.Goals as goal

pub returns-clause-found : goal.returns-clause-found
returns-clause-found c = (lines_from 0 c.args.text.now, lines-are 0 c.args.text.now)

pub returns-clause-only : goal.returns-clause-only
returns-clause-only c = λ at. lines-same at c.args.text.now
