use Rattle.sb_value.proofs.NetLaws.{untouched_tuples_stay as proved}
use Rattle.sb_value.proofs.laws.untouched_tuples_stay.Goals as goal

pub returns : goal.returns
returns c = proved
