use Rattle.std.proofs.Common.{Some, ap, sym, refl, ◌∙◌}
use Rattle.sb_syntax.specs.Reading.{table, table_by}
use Rattle.sb_syntax.proofs.expression.table.Goals as goal

pub returns-in-Some : goal.returns-in-Some
unfolding table table_by
returns-in-Some c = (rw (sym c.peek.ensures, sym c.transition_of.ensures ∙ c.in-Some.is) (ap (λ ts. Some (c.in-Some.table, ts)) (sym c.skip.ensures.value)), c.skip.ensures.shorter)

pub returns : goal.returns
unfolding table table_by
returns c = (rw (sym c.peek.ensures, sym c.transition_of.ensures ∙ c.in_default.is, c.in_ok-name.ensures.0) refl, c.in_ok-name.ensures.1)
