use Rattle.std.proofs.Common.{◌≡◌, ◌+◌, length}
use Rattle.sb_postgres.specs.Lines.{unprintable}
use Rattle.sb_postgres.proofs.query.draft.unprintable.Given as goal

abbrev pub invariant-loop-rest : goal.invariant-loop-rest
invariant-loop-rest l = record { value : unprintable l.place l.rest ≡ unprintable l.at l.bytes; within : l.place + length l.rest ≡ l.at + length l.bytes }

abbrev pub decreases-loop-rest : goal.decreases-loop-rest
decreases-loop-rest l = length l.rest
