use Rattle.std.proofs.Common.{refl, arith}
use Rattle.sb_syntax.proofs.WordLaws.{longer_word, grouped_word}
use Rattle.sb_syntax.proofs.lexer.word_kind.Goals as goal

pub returns-then-len-gt-LONGEST : goal.returns-then-len-gt-LONGEST
returns-then-len-gt-LONGEST c = longer_word c.args.word.now (omega arith)

pub returns : goal.returns
returns c = grouped_word _ _ c.args.word.now c.lookup.result c.lookup.ensures refl (omega arith)
