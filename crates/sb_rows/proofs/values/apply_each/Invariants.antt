use Rattle.std.proofs.Common.{pos, slice_index_or}
use Rattle.sb_rows.proofs.Steps.{IsChanged}
use Rattle.sb_rows.proofs.values.apply_each.Given as goal

abbrev pub invariant-loop-k : goal.invariant-loop-k
invariant-loop-k g l = IsChanged (λ j. g.O.Operation.exact (slice_index_or l.fn.numbers j (pos 0)) (slice_index_or l.others j (pos 0))) (pos 0) l.fn.numbers l.k l.numbers
