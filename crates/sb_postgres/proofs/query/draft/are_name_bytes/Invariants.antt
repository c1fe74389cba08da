use Rattle.std.proofs.Common.{◌≡◌, length}
use Rattle.sb_postgres.specs.Bytes.{all}
use Rattle.sb_postgres.specs.Lines.{is_name_byte}
use Rattle.sb_postgres.proofs.query.draft.are_name_bytes.Given as goal

abbrev pub invariant-loop-rest : goal.invariant-loop-rest
invariant-loop-rest l = all is_name_byte l.rest ≡ all is_name_byte l.bytes

abbrev pub decreases-loop-rest : goal.decreases-loop-rest
decreases-loop-rest l = length l.rest
