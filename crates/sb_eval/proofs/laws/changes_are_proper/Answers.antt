use Rattle.sb_eval.proofs.ProperChanges.{changes_are_proper as proved}
use Rattle.sb_eval.proofs.laws.changes_are_proper.Goals as goal

pub returns : goal.returns
returns c = proved
