use Rattle.sb_value.proofs.NetLaws.{net_effects_compose as proved}
use Rattle.sb_value.proofs.laws.net_effects_compose.Goals as goal

pub returns : goal.returns
returns c = proved
