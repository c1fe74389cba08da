use Rattle.sb_value.proofs.TriggerLaws.{new_changes_trigger as proved}
use Rattle.sb_value.proofs.laws.new_changes_trigger.Goals as goal

pub returns : goal.returns
returns c = proved
