use Rattle.std.proofs.Common.{refl, sym, ◌∙◌}
use Rattle.sb_syntax.specs.Reading.{column_type, expect}
use Rattle.sb_syntax.proofs.command.column_type.Goals as goal

pub returns-then-eat : goal.returns-then-eat
unfolding column_type expect
returns-then-eat c = (rw (c.eat.ensures.after, sym c.eat.ensures.found ∙ c.if-eat.true) refl, c.eat.ensures.shorter)
