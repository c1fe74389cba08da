use Rattle.sb_syntax.proofs.TextLaws.{command_of-grammar}
use Rattle.sb_syntax.proofs.token.command_of_is_the_grammar.Goals as goal

pub returns : goal.returns
returns c = command_of-grammar
