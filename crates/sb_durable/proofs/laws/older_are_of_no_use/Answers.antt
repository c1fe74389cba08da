use Rattle.sb_durable.proofs.Volumes as volumes
use Rattle.sb_durable.proofs.laws.older_are_of_no_use.Goals as goal

pub returns : goal.returns
returns c = volumes.older_are_of_no_use
