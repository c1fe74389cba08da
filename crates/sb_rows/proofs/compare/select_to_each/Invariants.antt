use Rattle.std.proofs.Common.{replicate}
use Rattle.std.specs.Simd.Lanes.{zip2}
use Rattle.sb_rows.specs.Selection.{word_at}
use Rattle.sb_rows.proofs.Steps.{IsChanged}
use Rattle.sb_rows.proofs.compare.select_to_each.Given as goal

abbrev pub invariant-loop-k : goal.invariant-loop-k
invariant-loop-k g l = IsChanged (word_at (zip2 g.R.Relation.holds l.numbers l.others)) 0 (replicate 16 0) l.k l.words
