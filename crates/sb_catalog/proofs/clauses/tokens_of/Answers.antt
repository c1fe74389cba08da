use Rattle.std.proofs.Common.{subst}
use Rattle.sb_syntax.specs.Text.{NoTokens}
use Rattle.sb_catalog.proofs.Texts.{no_tokens}
use Rattle.sb_catalog.proofs.clauses.tokens_of.Goals as goal

-- a line that isn't made of tokens has no command
pub returns-in-Err-Syntax : goal.returns-in-Err-Syntax
returns-in-Err-Syntax c r e = absurd (no_tokens c.args.line.now r (subst (NoTokens c.args.line.now) c.in-Err-Syntax.field-0-is c.in-Err-Syntax.ensures.none).1 e)
