use Rattle.std.proofs.Common.{refl, sym, ◌∙◌}
use Rattle.sb_syntax.specs.Reading.{trigger, word}
use Rattle.sb_syntax.proofs.rule.TriggerItem.read.Goals as goal

pub returns-in_ok-expect-in-Some-Inserted-clause-given : goal.returns-in_ok-expect-in-Some-Inserted-clause-given
unfolding trigger word
returns-in_ok-expect-in-Some-Inserted-clause-given c = (rw (sym c.peek.ensures ∙ c.in-Some-Inserted.is, c.in-Some-Inserted.field-0-is, c.in_ok-expect-in-Some-Inserted.ensures.0) refl, c.in_ok-expect-in-Some-Inserted.ensures.1)

pub returns-in_ok-expect-in-Some-Deleted-clause-given : goal.returns-in_ok-expect-in-Some-Deleted-clause-given
unfolding trigger word
returns-in_ok-expect-in-Some-Deleted-clause-given c = (rw (sym c.peek.ensures ∙ c.in-Some-Deleted.is, c.in-Some-Deleted.field-0-is, c.in_ok-expect-in-Some-Deleted.ensures.0) refl, c.in_ok-expect-in-Some-Deleted.ensures.1)
