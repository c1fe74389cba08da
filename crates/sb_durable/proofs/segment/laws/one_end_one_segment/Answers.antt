use Rattle.sb_durable.proofs.Chain as chain
use Rattle.sb_durable.proofs.segment.laws.one_end_one_segment.Goals as goal

pub returns : goal.returns
returns c = chain.one_end_one_segment
