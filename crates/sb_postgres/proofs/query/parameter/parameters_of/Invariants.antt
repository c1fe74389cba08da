use Rattle.std.proofs.Common.{◌≡◌, ◌≤◌, ◌-◌, length, drop, Ok}
use Rattle.sb_postgres.specs.Scan.{pieces}
use Rattle.sb_postgres.specs.Templates.{higher, highest}
use Rattle.sb_postgres.proofs.query.parameter.parameters_of.Given as goal

abbrev pub invariant-loop-at : goal.invariant-loop-at
invariant-loop-at l = record {
  so_far : higher (Ok l.most) (highest (pieces 0 l.at (drop l.at l.line))) ≡ highest (pieces 0 0 l.line);
  within : l.at ≤ length l.line;
}

abbrev pub decreases-loop-at : goal.decreases-loop-at
decreases-loop-at l = length l.line - l.at
