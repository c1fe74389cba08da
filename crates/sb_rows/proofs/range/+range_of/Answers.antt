use Rattle.std.proofs.Common.{◌+ℤ◌, ◌-ℤ◌, ◌*ℤ◌, rules, sym, subst}
use Rattle.sb_rows.specs.Range.{IsIn}
use Rattle.sb_rows.proofs.Ranges.{column_in, column_out, column_reaches, held_both, held_negation, single_in}
use Rattle.sb_rows.proofs.range.+range_of.Goals as goal

pub returns-in-Some-clause-held : goal.returns-in-Some-clause-held
returns-in-Some-clause-held t c = rw c.in-Column.is (λ row h.
    (tt, column_in _ _ _ _ h c.in-Some.ensures.lookup.3.0 c.in-Some.ensures.lookup.1))

pub returns-in-Some-clause-given : goal.returns-in-Some-clause-given
returns-in-Some-clause-given t c = rw c.in-Column.is
    ((λ h. search rules), column_reaches _ _ _ c.in-Some.ensures.lookup.3.0 c.in-Some.ensures.lookup.1)

pub returns-in-None-clause-held : goal.returns-in-None-clause-held
returns-in-None-clause-held t c = rw c.in-Column.is (λ row h. (
  tt,
  subst (IsIn c.single-in-None.result) (sym (column_out _ row _ h c.in-None.ensures.lookup.3))
      (single_in _ _ c.single-in-None.ensures.least c.single-in-None.ensures.greatest),
))

pub returns-in-Some-range_of-clause-held : goal.returns-in-Some-range_of-clause-held
returns-in-Some-range_of-clause-held t c =
    rw c.in-Negation.is (held_negation _ _ _ _ _ c.difference.ensures.held
    (single_in _ _ c.single-in-Some-range_of.ensures.least c.single-in-Some-range_of.ensures.greatest)
    (rw c.deref.ensures at c.in-Some-range_of.ensures.held))

pub returns-in-Some-range_of-3-clause-held : goal.returns-in-Some-range_of-3-clause-held
returns-in-Some-range_of-3-clause-held t c =
    rw c.in-Sum.is (held_both ◌+ℤ◌ _ _ _ _ _ _ c.sum.ensures.held
    (rw c.deref-in-Sum.ensures at c.in-Some-range_of-2.ensures.held) (rw c.deref-in-Some-range_of-2.ensures at c.in-Some-range_of-3.ensures.held))

pub returns-in-Some-range_of-5-clause-held : goal.returns-in-Some-range_of-5-clause-held
returns-in-Some-range_of-5-clause-held t c =
    rw c.in-Difference.is (held_both ◌-ℤ◌ _ _ _ _ _ _ c.difference-in-Some-range_of-5.ensures.held
    (rw c.deref-in-Difference.ensures at c.in-Some-range_of-4.ensures.held) (rw c.deref-in-Some-range_of-4.ensures at c.in-Some-range_of-5.ensures.held))

pub returns-in-Some-range_of-7-clause-held : goal.returns-in-Some-range_of-7-clause-held
returns-in-Some-range_of-7-clause-held t c =
    rw c.in-Product.is (held_both ◌*ℤ◌ _ _ _ _ _ _ c.product.ensures.held
    (rw c.deref-in-Product.ensures at c.in-Some-range_of-6.ensures.held) (rw c.deref-in-Some-range_of-6.ensures at c.in-Some-range_of-7.ensures.held))
