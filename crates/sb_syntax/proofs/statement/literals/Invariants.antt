use Rattle.std.proofs.Common.{◌≡◌, length}
use Rattle.sb_syntax.specs.declared.kind.TokenKind.TheVariants.{Comma}
use Rattle.sb_syntax.specs.Reading.{pushes, separated, literal_value}
use Rattle.sb_syntax.specs.Turns.{GoesOn}
use Rattle.sb_syntax.proofs.statement.literals.Given as goal

-- the literals so far are those of the tuple that is begun
abbrev pub invariant-more : goal.invariant-more
invariant-more l =
    record {
      turns : GoesOn (pushes Comma) literal_value (separated Comma literal_value l.fn.tokens) (length l.fn.tokens) l.all.begun l.tokens;
      closed : l.all.closed ≡ l.fn.all.closed;
    }

abbrev pub decreases-more : goal.decreases-more
decreases-more l = length l.tokens
