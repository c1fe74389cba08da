use Rattle.std.proofs.Common.{sym, ◌∙◌}
use Rattle.sb_syntax.proofs.Starts.{at_end, at_alone, at_digit, at_quote, at_letter, at_other}
use Rattle.sb_syntax.proofs.lexer.token.Goals as goal

pub returns-in_default-clause-value : goal.returns-in_default-clause-value
returns-in_default-clause-value c = at_end c.args.bytes.now c.in_default.len_below

pub returns-in-Some-clause-value : goal.returns-in-Some-clause-value
returns-in-Some-clause-value c = at_alone c.args.bytes.now c.in-Some.kind c.in-len1-up.len_at_least c.in-Some.ensures.found.0 c.in-Some.ensures.found.1 c.in-Some.ensures.found.2

pub returns-then-is_digit-clause-value : goal.returns-then-is_digit-clause-value
returns-then-is_digit-clause-value c = c.integer.ensures.value ∙ at_digit c.args.bytes.now c.in-len1-up.len_at_least (sym c.is_digit.ensures ∙ c.if-is_digit.true)

pub returns-then-b-eq39-clause-value : goal.returns-then-b-eq39-clause-value
returns-then-b-eq39-clause-value c = c.text.ensures.value ∙ at_quote c.args.bytes.now c.in-len1-up.len_at_least c.if-b-eq39.true

pub returns-then-is_letter-clause-value : goal.returns-then-is_letter-clause-value
returns-then-is_letter-clause-value c = sym c.word.ensures.value ∙ at_letter c.args.bytes.now c.in-len1-up.len_at_least (sym c.is_letter.ensures ∙ c.if-is_letter.true)

pub returns-else-is_letter-clause-value : goal.returns-else-is_letter-clause-value
returns-else-is_letter-clause-value c = c.symbol.ensures.value ∙ at_other c.args.bytes.now c.in-len1-up.len_at_least (sym c.is_letter.ensures ∙ c.if-is_letter.false) (sym c.is_digit.ensures ∙ c.if-is_digit.false) c.if-b-eq39.false
