use Rattle.std.proofs.Common.{refl, sym, ◌∙◌, arith}
use Rattle.sb_syntax.specs.Reading.{updated_of}
use Rattle.sb_syntax.proofs.rule.updated_of.Goals as goal

pub returns-then-not-sees : goal.returns-then-not-sees
unfolding updated_of
returns-then-not-sees c = (rw (sym c.sees.ensures ∙ c.if-not-sees.true) refl, omega arith)

pub returns : goal.returns
unfolding updated_of
returns c = (rw (sym c.sees.ensures ∙ c.if-not-sees.false, c.in_ok-expect.ensures.0, c.in_ok-columns.ensures.0, c.in_ok-expect-2.ensures.0) refl, omega (arith, c.in_ok-expect.ensures.1, c.in_ok-columns.ensures.1, c.in_ok-expect-2.ensures.1))
