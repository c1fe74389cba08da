use Rattle.sb_durable.proofs.Volumes as volumes
use Rattle.sb_durable.proofs.laws.renewals_stand.Goals as goal

pub returns : goal.returns
returns c = volumes.renewals_stand
