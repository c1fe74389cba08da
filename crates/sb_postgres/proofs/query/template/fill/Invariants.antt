use Rattle.std.proofs.Common.{◌≡◌, ◌≤◌, ◌-◌, [], length, drop}
use Rattle.sb_postgres.specs.Filling.{with_text}
use Rattle.sb_postgres.specs.Scan.{pieces}
use Rattle.sb_postgres.specs.Templates.{filled}
use Rattle.sb_postgres.proofs.query.template.fill.Given as goal

abbrev pub invariant-loop-at : goal.invariant-loop-at
invariant-loop-at l = record {
  so_far : with_text l.made.items (filled l.values (pieces 0 l.at (drop l.at l.line))) ≡ with_text [] (filled l.values (pieces 0 0 l.line));
  within : l.at ≤ length l.line;
}

abbrev pub decreases-loop-at : goal.decreases-loop-at
decreases-loop-at l = length l.line - l.at
