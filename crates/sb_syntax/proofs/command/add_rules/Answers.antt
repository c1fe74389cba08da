use Rattle.std.proofs.Common.{refl, arith}
use Rattle.sb_syntax.specs.Reading.{adds_rules}
use Rattle.sb_syntax.proofs.command.add_rules.Goals as goal

pub returns : goal.returns
unfolding adds_rules
returns c = (rw (c.in_ok-expect.ensures.0, c.in_ok-rules.ensures.0) refl, omega (arith, c.in_ok-expect.ensures.1, c.in_ok-rules.ensures.1))
