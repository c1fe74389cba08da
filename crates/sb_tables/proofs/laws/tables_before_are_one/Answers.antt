use Rattle.sb_tables.proofs.KeepLaws.{tables_before_are_one as proved}
use Rattle.sb_tables.proofs.laws.tables_before_are_one.Goals as goal

pub returns : goal.returns
returns c = proved
