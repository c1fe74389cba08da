use Rattle.std.proofs.Common.{ℕ, List}
use Rattle.sb_durable.specs.Records.{Entry}
use Rattle.sb_durable.specs.SegmentNeeds.{AreNeeds, NobodyNeedsBelow}
use Rattle.sb_durable.proofs.segment_needs.SegmentNeeds.oldest.Given as goal

-- of the tenants so far nobody needs a segment below the oldest one
abbrev pub invariant-loop-need : goal.invariant-loop-need
invariant-loop-need l = (first : ℕ) (row : List (List Entry)) → AreNeeds l.fn.self first row → NobodyNeedsBelow l.need-index first row l.oldest
