use Rattle.std.proofs.Common.{replicate, map}
use Rattle.sb_rows.specs.Selection.{word_at}
use Rattle.sb_rows.proofs.Steps.{IsChanged}
use Rattle.sb_rows.proofs.compare.select_to_same.Given as goal

abbrev pub invariant-loop-k : goal.invariant-loop-k
invariant-loop-k g l = IsChanged (word_at (map (λ x. g.R.Relation.holds x l.other) l.numbers)) 0 (replicate 16 0) l.k l.words
