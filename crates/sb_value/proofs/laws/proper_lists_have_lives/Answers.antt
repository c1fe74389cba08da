use Rattle.sb_value.proofs.ProperLaws.{proper_lists_have_lives as proved}
use Rattle.sb_value.proofs.laws.proper_lists_have_lives.Goals as goal

pub returns : goal.returns
returns c = proved
