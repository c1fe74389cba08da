use Rattle.std.proofs.Common.{arith}
use Rattle.sb_durable.proofs.segment.segment.Segment.check_next.Goals as goal

-- behind the last number there is none
pub returns-in_default-clause-err : goal.returns-in_default-clause-err
returns-in_default-clause-err g c same = omega (arith, c.in_default.ensures, c.number-found.type_inv, c.number-found.ensures, same)
