use Rattle.std.proofs.Common.{refl, arith}
use Rattle.sb_syntax.specs.Reading.{rule_body}
use Rattle.sb_syntax.proofs.rule.body.Goals as goal

pub returns : goal.returns
unfolding rule_body
returns c = (
  rw (c.in_ok-condition.ensures.0, c.in_ok-expect.ensures.0, c.in_ok-actions.ensures.0, c.in_ok-precedes.ensures.0, c.in_ok-follows.ensures.0) refl,
  omega (arith, c.in_ok-condition.ensures.1, c.in_ok-expect.ensures.1, c.in_ok-actions.ensures.1, c.in_ok-precedes.ensures.1, c.in_ok-follows.ensures.1),
)
