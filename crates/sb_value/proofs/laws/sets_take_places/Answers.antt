use Rattle.sb_value.proofs.PlaceLaws.{set_more}
use Rattle.sb_value.proofs.laws.sets_take_places.Goals as goal

pub returns : goal.returns
returns c = set_more
