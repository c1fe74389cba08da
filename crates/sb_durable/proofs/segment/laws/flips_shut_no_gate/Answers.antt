use Rattle.sb_durable.proofs.SegmentContents as contents
use Rattle.sb_durable.proofs.segment.laws.flips_shut_no_gate.Goals as goal

pub returns : goal.returns
returns c = contents.flips_shut_no_gate
