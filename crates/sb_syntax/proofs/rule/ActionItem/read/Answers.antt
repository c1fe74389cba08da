use Rattle.std.proofs.Common.{refl, sym, ◌∙◌}
use Rattle.sb_syntax.specs.Reading.{action, word}
use Rattle.sb_syntax.proofs.rule.ActionItem.read.Goals as goal

pub returns-in_ok-expect-clause-given : goal.returns-in_ok-expect-clause-given
unfolding action word
returns-in_ok-expect-clause-given c = (rw (sym c.sees.ensures ∙ c.if-sees.true, c.in_ok-expect.ensures.0) refl, c.in_ok-expect.ensures.1)

pub returns-in_ok-change-clause-given : goal.returns-in_ok-change-clause-given
unfolding action
returns-in_ok-change-clause-given c = (rw (sym c.sees.ensures ∙ c.if-sees.false, c.in_ok-change.ensures.0) refl, c.in_ok-change.ensures.1)
