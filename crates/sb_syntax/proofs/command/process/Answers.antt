use Rattle.std.proofs.Common.{refl, sym, ◌∙◌, arith}
use Rattle.sb_syntax.specs.Reading.{processes, word}
use Rattle.sb_syntax.proofs.command.process.Goals as goal

pub returns-in_ok-expect-in-Some-Rules : goal.returns-in_ok-expect-in-Some-Rules
unfolding processes word
returns-in_ok-expect-in-Some-Rules c = (rw (c.in_ok-expect.ensures.0, sym c.peek.ensures ∙ c.in-Some-Rules.is, c.in-Some-Rules.field-0-is, c.in_ok-expect-in-Some-Rules.ensures.0) refl, omega (arith, c.in_ok-expect.ensures.1, c.in_ok-expect-in-Some-Rules.ensures.1))

pub returns-in_ok-name_after-in-Some-Rule : goal.returns-in_ok-name_after-in-Some-Rule
unfolding processes
returns-in_ok-name_after-in-Some-Rule c = (rw (c.in_ok-expect.ensures.0, sym c.peek.ensures ∙ c.in-Some-Rule.is, c.in-Some-Rule.field-0-is, c.in_ok-name_after-in-Some-Rule.ensures.0) refl, omega (arith, c.in_ok-expect.ensures.1, c.in_ok-name_after-in-Some-Rule.ensures.1))
