use Rattle.sb_host.proofs.Lives.{all_volumes}
use Rattle.sb_host.proofs.laws.lives_add_up.Goals as goal

pub returns : goal.returns
returns c = all_volumes
