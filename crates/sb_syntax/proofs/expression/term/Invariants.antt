use Rattle.std.proofs.Common.{length}
use Rattle.sb_syntax.specs.Reading.{multiplies, factor, term}
use Rattle.sb_syntax.specs.Turns.{GoesOn}
use Rattle.sb_syntax.specs.Views.{expression}
use Rattle.sb_syntax.proofs.expression.term.Given as goal

abbrev pub invariant-more : goal.invariant-more
invariant-more l = GoesOn multiplies factor (term l.fn.tokens) (length l.fn.tokens) (expression l.left) l.tokens

abbrev pub decreases-more : goal.decreases-more
decreases-more l = length l.tokens
