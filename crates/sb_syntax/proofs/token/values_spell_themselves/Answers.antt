use Rattle.sb_syntax.proofs.Spelling.{spells}
use Rattle.sb_syntax.proofs.token.values_spell_themselves.Goals as goal

pub returns : goal.returns
returns c = spells
