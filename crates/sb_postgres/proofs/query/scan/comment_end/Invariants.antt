use Rattle.std.proofs.Common.{◌≡◌, ◌+◌, ◌≤◌, length}
use Rattle.sb_postgres.specs.Scan.{comment_end}
use Rattle.sb_postgres.proofs.query.scan.comment_end.Given as goal

abbrev pub invariant-loop-rest : goal.invariant-loop-rest
invariant-loop-rest l = record {
  value : comment_end l.depth l.n l.rest ≡ comment_end 0 0 l.text;
  within : l.n + length l.rest ≡ length l.text;
  shallow : l.depth ≤ l.n;
}

abbrev pub decreases-loop-rest : goal.decreases-loop-rest
decreases-loop-rest l = length l.rest
