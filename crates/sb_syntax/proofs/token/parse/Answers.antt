use Rattle.std.proofs.Common.{ap, sym, ◌∙◌, arith}
use Rattle.std.proofs.lemmas.Result.{err_from_is_err_and}
use Rattle.sb_syntax.specs.Cursor.{lexemes}
use Rattle.sb_syntax.specs.Reading.{command}
use Rattle.sb_syntax.proofs.TextLaws.{spelled, computed, no_command, no_tokens-no_command}
use Rattle.sb_syntax.proofs.token.parse.Goals as goal

pub returns-in-Ok-clause-found : goal.returns-in-Ok-clause-found
returns-in-Ok-clause-found c =
    let e = c.new-cursor.ensures ∙ ap (lexemes c.args.text.now) c.as_slice.ensures.value in
    spelled c.args.text.now c.in_ok-tokens.tokens.items _ _ c.in_ok-tokens.ensures.found (ap command (sym e) ∙ c.in-Ok.ensures.0)

pub returns-in-Ok-clause-computed : goal.returns-in-Ok-clause-computed
returns-in-Ok-clause-computed c =
    let e = c.new-cursor.ensures ∙ ap (lexemes c.args.text.now) c.as_slice.ensures.value in
    computed c.args.text.now c.in_ok-tokens.tokens.items _ _ c.in_ok-tokens.ensures.found (ap command (sym e) ∙ c.in-Ok.ensures.0)

pub returns-in-Err-Refused-clause-none : goal.returns-in-Err-Refused-clause-none
returns-in-Err-Refused-clause-none c =
    let e = c.new-cursor.ensures ∙ ap (lexemes c.args.text.now) c.as_slice.ensures.value in
    let none = rw c.in-Err-Refused.field-0-is at c.in-Err-Refused.ensures in
    let refused = no_command c.args.text.now c.in_ok-tokens.tokens.items c.in_ok-tokens.ensures.found (ap command (sym e) ∙ none) in
    (omega arith, refused.0, refused.1)

pub returns-in_err-tokens-clause-none : goal.returns-in_err-tokens-clause-none
returns-in_err-tokens-clause-none c =
    let p = err_from_is_err_and c.from_residual.result c.from_residual.ensures.1 in
    rw (p.1, p.2) (no_tokens-no_command c.args.text.now c.in_err-tokens.field-0.0 c.in_err-tokens.ensures.none)
