use Rattle.sb_value.proofs.OrderLaws.{precedes_is_closure as proved}
use Rattle.sb_value.proofs.laws.precedes_is_closure.Goals as goal

pub returns : goal.returns
returns c = proved
