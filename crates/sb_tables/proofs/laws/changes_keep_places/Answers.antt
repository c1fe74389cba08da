use Rattle.sb_tables.proofs.KeepLaws.{changes_keep_places as proved}
use Rattle.sb_tables.proofs.laws.changes_keep_places.Goals as goal

pub returns : goal.returns
returns c = proved
