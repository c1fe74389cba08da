use Rattle.std.proofs.Common.{◌≡◌, length, map}
use Rattle.sb_syntax.specs.Lex.{lookup}
use Rattle.sb_syntax.proofs.lexer.lookup.Given as goal

abbrev pub invariant-loop-words : goal.invariant-loop-words
invariant-loop-words l = lookup (map (λ w. (w.0.now, w.1)) l.words) l.word ≡ lookup (map (λ w. (w.0.now, w.1)) l.initial.words) l.word

abbrev pub decreases-loop-words : goal.decreases-loop-words
decreases-loop-words l = length l.words
