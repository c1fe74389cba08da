use Rattle.sb_durable.proofs.Volumes as volumes
use Rattle.sb_durable.proofs.laws.sessions_alone.Goals as goal

pub returns : goal.returns
returns c = volumes.sessions_alone
