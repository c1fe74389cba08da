use Rattle.std.proofs.Common.{◌∙◌, sym}
use Rattle.sb_priority.specs.Closed.{relates}
use Rattle.sb_priority.proofs.Paths.{precedes_same}
use Rattle.sb_priority.proofs.pairs.Pairs.predecessors.Goals as goal

-- the closure is that of some list of the same pairs
pub returns : goal.returns
returns c pairs h a =
    c.predecessors.ensures a ∙ c.self.invariant.2 a c.args.rule
    ∙ precedes_same c.precedes_is_closure.ensures c.self.invariant.0 pairs (λ x y. sym (c.self.invariant.1 x y) ∙ (λ i. relates (c.self.view_is i) x y) ∙ h x y) a c.args.rule
