-- the text is whole with one row more
use Rattle.std.proofs.Common.{ℕ, ap, ◌∙◌, subst, sym}
use Rattle.sb_rows.specs.Lines.{with_row_ended}
use Rattle.sb_rows.specs.Reading.{IsWhole}
use Rattle.sb_rows.proofs.Wholes.{row_ended}
use Rattle.sb_rows.proofs.row_text.RowText.end_row.Goals as goal

pub invariant_of-self-2 : goal.invariant_of-self-2
invariant_of-self-2 c =
    subst (λ (n : ℕ). IsWhole c.end_line.new.text.items n) (sym c.in-Some.ensures.1) (row_ended _ _ _ c.self.invariant c.in_ok-end_line.ensures.ok).0

pub returns-clause-ok : goal.returns-clause-ok
returns-clause-ok c =
    (row_ended _ _ _ c.self.invariant c.in_ok-end_line.ensures.ok).1 ∙ ap with_row_ended c.self.view_is
