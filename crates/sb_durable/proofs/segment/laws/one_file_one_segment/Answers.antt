use Rattle.sb_durable.proofs.SegmentReading as reading
use Rattle.sb_durable.proofs.segment.laws.one_file_one_segment.Goals as goal

pub returns : goal.returns
returns c = reading.one_file_one_segment
