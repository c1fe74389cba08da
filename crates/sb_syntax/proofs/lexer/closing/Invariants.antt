use Rattle.std.proofs.Common.{◌≡◌, ◌≤◌, ◌+◌, length, option_map}
use Rattle.sb_syntax.specs.Scan.{closing}
use Rattle.sb_syntax.proofs.lexer.closing.Given as goal

abbrev pub invariant-loop-rest : goal.invariant-loop-rest
invariant-loop-rest l = record {
  value : option_map (λ p. (p.0 + l.len, p.1 + l.n)) (closing l.rest) ≡ closing l.text;
  within : l.n + length l.rest ≡ length l.text;
  fewer : l.len ≤ l.n;
}

abbrev pub decreases-loop-rest : goal.decreases-loop-rest
decreases-loop-rest l = length l.rest
