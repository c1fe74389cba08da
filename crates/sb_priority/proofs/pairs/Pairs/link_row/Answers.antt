use Rattle.std.proofs.Common.{◌∙◌, ◌≤◌, ℕ, List, ◌++◌, ◌&&◌, ◌||◌, ◌==◌, length, sym, arith}
use Rattle.std.proofs.Math.Bool.{or_comm, or-false}
use Rattle.sb_value.specs.Flags.{flag_at}
use Rattle.sb_value.specs.Limits.{rule_limit}
use Rattle.sb_priority.specs.Closed.{relates, has_pair, row_pairs}
use Rattle.sb_priority.proofs.Choice.{none_flagged}
use Rattle.sb_priority.proofs.Paths.{has_pair-append}
use Rattle.sb_priority.proofs.RowClosure.{in_row_set}
use Rattle.sb_priority.proofs.pairs.Pairs.link_row.Goals as goal

pub returns-then-is_empty : goal.returns-then-is_empty
returns-then-is_empty c a b =
    sym (or-false (relates c.args.self.now a b)) ∙ (λ i. relates c.args.self.now a b || (sym (none_flagged c.args.row (sym c.if-is_empty.true ∙ c.is_empty.ensures) a) i && (c.args.second == b)))

-- the pairs are those of the row more
pub invariant_of-self : goal.invariant_of-self
invariant_of-self c =
    let row : List (ℕ × ℕ) = row_pairs (flag_at c.args.row) c.args.second rule_limit in
    let old = c.self.invariant.0 in
    let long : length c.args.row ≤ rule_limit = omega (arith, c.capacity-capacity.ensures.flags, c.capacity-capacity.ensures.value) in (
      row ++ old,
      λ a b. c.mark.ensures a b ∙ (λ i. c.self.invariant.1 a b i || sym (in_row_set c.args.row c.args.second rule_limit a b long) i) ∙ or_comm (has_pair old a b) (has_pair row a b) ∙ sym (has_pair-append row old a b),
      c.link_row.ensures old c.self.invariant.2,
    )
