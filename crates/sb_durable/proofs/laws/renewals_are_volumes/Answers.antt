use Rattle.sb_durable.proofs.Volumes as volumes
use Rattle.sb_durable.proofs.laws.renewals_are_volumes.Goals as goal

pub returns : goal.returns
returns c = volumes.renewals_are_volumes
