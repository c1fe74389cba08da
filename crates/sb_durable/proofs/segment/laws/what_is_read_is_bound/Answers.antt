use Rattle.sb_durable.proofs.Chain as chain
use Rattle.sb_durable.proofs.segment.laws.what_is_read_is_bound.Goals as goal

pub returns : goal.returns
returns c = chain.what_is_read_is_bound
