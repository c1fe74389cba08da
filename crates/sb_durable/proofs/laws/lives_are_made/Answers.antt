use Rattle.sb_durable.proofs.VolumeLives as lives
use Rattle.sb_durable.proofs.laws.lives_are_made.Goals as goal

pub returns : goal.returns
returns c = lives.lives_are_made
