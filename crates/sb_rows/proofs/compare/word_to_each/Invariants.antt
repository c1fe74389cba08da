use Rattle.std.proofs.Common.{◌≡◌, ◌≤◌, length, drop}
use Rattle.std.specs.Simd.Lanes.{zip2, mask_l}
use Rattle.sb_rows.proofs.compare.word_to_each.Given as goal

abbrev pub invariant-loop-left : goal.invariant-loop-left
invariant-loop-left g l = record { within : l.left ≤ length l.numbers; made : l.word ≡ mask_l (drop l.left (zip2 g.R.Relation.holds l.numbers l.others)) }

-- proposed from the loop's first test
abbrev pub decreases-loop-left : goal.decreases-loop-left
decreases-loop-left g l = l.left
