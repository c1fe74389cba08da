use Rattle.sb_durable.proofs.Volumes as volumes
use Rattle.sb_durable.proofs.laws.old_segments_can_go.Goals as goal

pub returns : goal.returns
returns c = volumes.old_segments_can_go
