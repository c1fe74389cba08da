use Rattle.std.proofs.Common.{◌∙◌}
use Rattle.std.specs.Ordering.{int_cmp, is_eq, is_ne, is_lt, is_le, is_gt, is_ge}
use Rattle.sb_rows.specs.Batch.{number_in}
use Rattle.sb_rows.proofs.ByRows.{others_by_rows, other_than_equal, other_than_less, other_than_greater}
use Rattle.sb_rows.proofs.compare.select_compared.Goals as goal

pub returns-in-NotEqual : goal.returns-in-NotEqual
returns-in-NotEqual c =
    rw c.in-NotEqual.is (c.negated.ensures
    ∙ others_by_rows is_eq is_ne (λ k. int_cmp (number_in k c.args.one.now) (number_in k c.args.two.now)) _ _ other_than_equal c.related-in-NotEqual.ensures)

pub returns-in-LessEqual : goal.returns-in-LessEqual
returns-in-LessEqual c =
    rw c.in-LessEqual.is (c.negated-in-LessEqual.ensures
    ∙ others_by_rows is_gt is_le (λ k. int_cmp (number_in k c.args.one.now) (number_in k c.args.two.now)) _ _ other_than_greater c.related-in-LessEqual.ensures)

pub returns-in-GreaterEqual : goal.returns-in-GreaterEqual
returns-in-GreaterEqual c =
    rw c.in-GreaterEqual.is (c.negated-in-GreaterEqual.ensures
    ∙ others_by_rows is_lt is_ge (λ k. int_cmp (number_in k c.args.one.now) (number_in k c.args.two.now)) _ _ other_than_less c.related-in-GreaterEqual.ensures)
