use Rattle.std.proofs.Common.{refl, sym, ◌∙◌, arith}
use Rattle.sb_syntax.specs.Reading.{creates}
use Rattle.sb_syntax.proofs.command.create.Goals as goal

pub returns-in_ok-name_after-in-Some-Ruleset : goal.returns-in_ok-name_after-in-Some-Ruleset
unfolding creates
returns-in_ok-name_after-in-Some-Ruleset c = (rw (c.in_ok-expect.ensures.0, sym c.peek.ensures ∙ c.in-Some-Ruleset.is, c.in-Some-Ruleset.field-0-is, c.in_ok-name_after-in-Some-Ruleset.ensures.0) refl, omega (arith, c.in_ok-expect.ensures.1, c.in_ok-name_after-in-Some-Ruleset.ensures.1))
