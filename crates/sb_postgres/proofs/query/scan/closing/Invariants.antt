use Rattle.std.proofs.Common.{◌≡◌, ◌+◌, length}
use Rattle.sb_postgres.specs.Scan.{closing}
use Rattle.sb_postgres.proofs.query.scan.closing.Given as goal

abbrev pub invariant-loop-rest : goal.invariant-loop-rest
invariant-loop-rest l = record { value : closing l.quote l.n l.rest ≡ closing l.quote 0 l.text; within : l.n + length l.rest ≡ length l.text }

abbrev pub decreases-loop-rest : goal.decreases-loop-rest
decreases-loop-rest l = length l.rest
