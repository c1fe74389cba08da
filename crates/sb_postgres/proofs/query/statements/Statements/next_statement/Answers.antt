use Rattle.std.proofs.lemmas.Result.{err_from_is_err_and}
use Rattle.sb_postgres.proofs.Grammar.{none_left, one_less, is_told}
use Rattle.sb_postgres.proofs.query.statements.Statements.next_statement.Goals as goal

pub returns-in_err-statement-clause-next : goal.returns-in_err-statement-clause-next
returns-in_err-statement-clause-next c = λ ls h.
    let p = err_from_is_err_and c.from_residual.result c.from_residual.ensures.1 in
    rw (p.1, p.2) (is_told c.args.self.now.at c.args.self.now.text.now c.args.self.now c.in_err-statement.field-0.0 ls c.in_err-statement.ensures.first h)

pub returns-in_default-clause-next : goal.returns-in_default-clause-next
returns-in_default-clause-next c = λ ls h. none_left c.args.self.now.at c.args.self.now.text.now c.in_ok-statement.field-0 ls c.in_ok-statement.ensures.first c.in_default.is h

pub returns-clause-next : goal.returns-clause-next
returns-clause-next c = λ ls h. one_less c.args.self.now.at c.args.self.now.text.now c.in_ok-statement.field-0 (c.in-Some.statement, c.in-Some.at) ls c.in_ok-statement.ensures.first c.in-Some.is h
