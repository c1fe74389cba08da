use Rattle.std.proofs.Common.{◌∙◌, sym}
use Rattle.sb_priority.specs.Closed.{relates}
use Rattle.sb_priority.specs.Rows.{before_of}
use Rattle.sb_priority.proofs.Paths.{precedes_same}
use Rattle.sb_priority.proofs.rows.PrecedenceRows.predecessors.Goals as goal

-- the closure is that of some list of the same pairs
pub returns : goal.returns
returns c pairs h a =
    let closed = c.self.invariant.1 in
    c.before_in.ensures a ∙ (λ i. relates (before_of (c.as_slice.ensures.value i)) a c.args.rule) ∙ closed.2 a c.args.rule
    ∙ precedes_same c.precedes_is_closure.ensures closed.0 pairs (λ x y. sym (closed.1 x y) ∙ (λ i. relates (c.self.view_is i) x y) ∙ h x y) a c.args.rule
