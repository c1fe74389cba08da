use Rattle.std.proofs.Common.{refl, sym, ◌∙◌, arith}
use Rattle.sb_syntax.specs.Reading.{condition_if}
use Rattle.sb_syntax.proofs.rule.condition.Goals as goal

pub returns-then-not-sees : goal.returns-then-not-sees
unfolding condition_if
returns-then-not-sees c = (rw (sym c.sees.ensures ∙ c.if-not-sees.true) refl, omega arith)

pub returns : goal.returns
unfolding condition_if
returns c = (rw (sym c.sees.ensures ∙ c.if-not-sees.false, c.in_ok-expect.ensures.0, c.in_ok-query.ensures.0) refl, omega (arith, c.in_ok-expect.ensures.1, c.in_ok-query.ensures.1))
