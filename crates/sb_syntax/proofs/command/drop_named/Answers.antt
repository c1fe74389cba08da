use Rattle.std.proofs.Common.{refl, sym, ◌∙◌, arith}
use Rattle.sb_syntax.specs.Reading.{drops}
use Rattle.sb_syntax.proofs.command.drop_named.Goals as goal

pub returns-in_ok-name_after-in-Some-Table : goal.returns-in_ok-name_after-in-Some-Table
unfolding drops
returns-in_ok-name_after-in-Some-Table c = (rw (c.in_ok-expect.ensures.0, sym c.peek.ensures ∙ c.in-Some-Table.is, c.in-Some-Table.field-0-is, c.in_ok-name_after-in-Some-Table.ensures.0) refl, omega (arith, c.in_ok-expect.ensures.1, c.in_ok-name_after-in-Some-Table.ensures.1))

pub returns-in_ok-name_after-in-Some-Rule : goal.returns-in_ok-name_after-in-Some-Rule
unfolding drops
returns-in_ok-name_after-in-Some-Rule c = (rw (c.in_ok-expect.ensures.0, sym c.peek.ensures ∙ c.in-Some-Rule.is, c.in-Some-Rule.field-0-is, c.in_ok-name_after-in-Some-Rule.ensures.0) refl, omega (arith, c.in_ok-expect.ensures.1, c.in_ok-name_after-in-Some-Rule.ensures.1))
