use Rattle.std.proofs.Common.{◌≡◌, ◌≤◌, map, length, drop}
use Rattle.std.specs.Simd.Lanes.{mask_l}
use Rattle.sb_rows.proofs.compare.word_to_same.Given as goal

abbrev pub invariant-loop-left : goal.invariant-loop-left
invariant-loop-left g l = record { within : l.left ≤ length l.numbers; made : l.word ≡ mask_l (drop l.left (map (λ x. g.R.Relation.holds x l.other) l.numbers)) }

-- proposed from the loop's first test
abbrev pub decreases-loop-left : goal.decreases-loop-left
decreases-loop-left g l = l.left
