use Rattle.sb_value.proofs.TextLaws.{literals_give_values_back as proved}
use Rattle.sb_value.proofs.laws.literals_give_values_back.Goals as goal

pub returns : goal.returns
returns c = proved
