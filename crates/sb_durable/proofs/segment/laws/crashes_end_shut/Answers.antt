use Rattle.sb_durable.proofs.SegmentContents as contents
use Rattle.sb_durable.proofs.segment.laws.crashes_end_shut.Goals as goal

pub returns : goal.returns
returns c = contents.crashes_end_shut
