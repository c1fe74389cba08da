use Rattle.std.proofs.Common.{◌≡◌, [], length}
use Rattle.sb_syntax.specs.declared.kind.TokenKind.TheVariants.{Comma}
use Rattle.sb_syntax.specs.Reading.{pushes, separated, tuple}
use Rattle.sb_syntax.specs.Turns.{GoesOn}
use Rattle.sb_syntax.proofs.statement.tuples.Given as goal

-- the tuples so far are closed
abbrev pub invariant-more : goal.invariant-more
invariant-more l =
    record {
      turns : GoesOn (pushes Comma) tuple (separated Comma tuple l.fn.tokens) (length l.fn.tokens) l.all.closed l.tokens;
      begun : l.all.begun ≡ [];
    }

abbrev pub decreases-more : goal.decreases-more
decreases-more l = length l.tokens
