use Rattle.sb_durable.proofs.Volumes as volumes
use Rattle.sb_durable.proofs.laws.drafts_are_nothing.Goals as goal

pub returns : goal.returns
returns c = volumes.drafts_are_nothing
