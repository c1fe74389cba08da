use Rattle.std.proofs.Common.{◌≡◌, ◌+◌, length}
use Rattle.std.specs.List.{prefix_len}
use Rattle.sb_postgres.specs.Bytes.{is_digit}
use Rattle.sb_postgres.proofs.query.scan.digits_len.Given as goal

abbrev pub invariant-loop-rest : goal.invariant-loop-rest
invariant-loop-rest l = record { value : l.n + prefix_len is_digit l.rest ≡ prefix_len is_digit l.text; within : l.n + length l.rest ≡ length l.text }

abbrev pub decreases-loop-rest : goal.decreases-loop-rest
decreases-loop-rest l = length l.rest
