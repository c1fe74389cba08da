use Rattle.sb_durable.proofs.Volumes as volumes
use Rattle.sb_durable.proofs.laws.volumes_stand.Goals as goal

pub returns : goal.returns
returns c = volumes.volumes_stand
