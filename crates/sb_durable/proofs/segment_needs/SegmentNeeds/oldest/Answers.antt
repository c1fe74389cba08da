use Rattle.std.proofs.Common.{arith, rules}
use Rattle.sb_durable.proofs.Needs.{served_then}
use Rattle.sb_durable.proofs.segment_needs.SegmentNeeds.oldest.Goals as goal

-- with one tenant more
pub loop-need-preserved : goal.loop-need-preserved
loop-need-preserved c = λ first row needs.
    served_then c.args.self.now.oldest.items c.loop-need.need-index first row c.loop-need.oldest _ c.older_of-oldest.result c.older_of-oldest.ensures (search rules) (search rules) (c.loop-need.invariant first row needs) needs

pub returns : goal.returns
returns c = λ first row needs t within. c.loop-need.invariant first row needs t (omega (arith, within))
