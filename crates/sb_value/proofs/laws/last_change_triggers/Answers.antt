use Rattle.sb_value.proofs.TriggerLaws.{last_change_triggers as proved}
use Rattle.sb_value.proofs.laws.last_change_triggers.Goals as goal

pub returns : goal.returns
returns c = proved
