use Rattle.std.proofs.Common.{refl, arith}
use Rattle.sb_syntax.specs.Reading.{updates}
use Rattle.sb_syntax.proofs.statement.update.Goals as goal

pub returns : goal.returns
unfolding updates
returns c = (
  rw (c.in_ok-expect.ensures.0, c.in_ok-table.ensures.0, c.in_ok-expect-2.ensures.0, c.in_ok-assignments.ensures.0, c.in_ok-filter.ensures.0) refl,
  omega (arith, c.in_ok-expect.ensures.1, c.in_ok-table.ensures.1, c.in_ok-expect-2.ensures.1, c.in_ok-assignments.ensures.1, c.in_ok-filter.ensures.1),
)
