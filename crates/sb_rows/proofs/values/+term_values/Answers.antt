use Rattle.std.proofs.Common.{ap, arith}
use Rattle.sb_rows.proofs.Depth.{term_depth}
use Rattle.sb_rows.proofs.values.+term_values.Goals as goal

pub returns-in-Column : goal.returns-in-Column
returns-in-Column t c = rw c.in-Column.is (c.lent.ensures _ c.requires.long)

pub term_values-requires : goal.term_values-requires
term_values-requires t c = (
  omega (arith, c.decreases, ap term_depth c.in-Negation.is, ap term_depth c.deref.ensures),
  (c.requires.some, (c.requires.long, λ k h. rw c.deref.ensures (rw c.in-Negation.is at (c.requires.fits k h)).0)),
)

pub combined-requires-clause-fits : goal.combined-requires-clause-fits
combined-requires-clause-fits t c = λ k h.
    rw (c.in_ok-one-in-Negation.ensures.each k h, c.deref.ensures) (rw c.in-Negation.is at (c.requires.fits k h)).1

pub term_values-requires-in-Sum : goal.term_values-requires-in-Sum
term_values-requires-in-Sum t c = (
  omega (arith, c.decreases, ap term_depth c.in-Sum.is, ap term_depth c.deref-in-Sum.ensures),
  (c.requires.some, (c.requires.long, λ k h. rw c.deref-in-Sum.ensures (rw c.in-Sum.is at (c.requires.fits k h)).0)),
)

pub term_values-requires-in-Sum-2 : goal.term_values-requires-in-Sum-2
term_values-requires-in-Sum-2 t c = (
  omega (arith, c.decreases, ap term_depth c.in-Sum.is, ap term_depth c.deref-in-Sum-2.ensures),
  (c.requires.some, (c.requires.long, λ k h. rw c.deref-in-Sum-2.ensures (rw c.in-Sum.is at (c.requires.fits k h)).1)),
)

pub combined-requires-in-Sum-clause-fits : goal.combined-requires-in-Sum-clause-fits
combined-requires-in-Sum-clause-fits t c = λ k h.
    rw (c.in_ok-one-in-Sum.ensures.each k h, c.in_ok-two-in-Sum.ensures.each k h, c.deref-in-Sum.ensures, c.deref-in-Sum-2.ensures)
    (rw c.in-Sum.is at (c.requires.fits k h)).2

pub term_values-requires-in-Difference : goal.term_values-requires-in-Difference
term_values-requires-in-Difference t c = (
  omega (arith, c.decreases, ap term_depth c.in-Difference.is, ap term_depth c.deref-in-Difference.ensures),
  (c.requires.some, (c.requires.long, λ k h. rw c.deref-in-Difference.ensures (rw c.in-Difference.is at (c.requires.fits k h)).0)),
)

pub term_values-requires-in-Difference-2 : goal.term_values-requires-in-Difference-2
term_values-requires-in-Difference-2 t c = (
  omega (arith, c.decreases, ap term_depth c.in-Difference.is, ap term_depth c.deref-in-Difference-2.ensures),
  (c.requires.some, (c.requires.long, λ k h. rw c.deref-in-Difference-2.ensures (rw c.in-Difference.is at (c.requires.fits k h)).1)),
)

pub combined-requires-in-Difference-clause-fits : goal.combined-requires-in-Difference-clause-fits
combined-requires-in-Difference-clause-fits t c = λ k h.
    rw (c.in_ok-one-in-Difference.ensures.each k h, c.in_ok-two-in-Difference.ensures.each k h, c.deref-in-Difference.ensures, c.deref-in-Difference-2.ensures)
    (rw c.in-Difference.is at (c.requires.fits k h)).2

pub term_values-requires-in-Product : goal.term_values-requires-in-Product
term_values-requires-in-Product t c = (
  omega (arith, c.decreases, ap term_depth c.in-Product.is, ap term_depth c.deref-in-Product.ensures),
  (c.requires.some, (c.requires.long, λ k h. rw c.deref-in-Product.ensures (rw c.in-Product.is at (c.requires.fits k h)).0)),
)

pub term_values-requires-in-Product-2 : goal.term_values-requires-in-Product-2
term_values-requires-in-Product-2 t c = (
  omega (arith, c.decreases, ap term_depth c.in-Product.is, ap term_depth c.deref-in-Product-2.ensures),
  (c.requires.some, (c.requires.long, λ k h. rw c.deref-in-Product-2.ensures (rw c.in-Product.is at (c.requires.fits k h)).1)),
)

pub combined-requires-in-Product-clause-fits : goal.combined-requires-in-Product-clause-fits
combined-requires-in-Product-clause-fits t c = λ k h.
    rw (c.in_ok-one-in-Product.ensures.each k h, c.in_ok-two-in-Product.ensures.each k h, c.deref-in-Product.ensures, c.deref-in-Product-2.ensures)
    (rw c.in-Product.is at (c.requires.fits k h)).2
