use Rattle.sb_host.proofs.VolumeRows.{list_at-row}
use Rattle.sb_host.proofs.volume_stubs.VolumeStubs.of.Goals as goal

pub returns-clause-held : goal.returns-clause-held
returns-clause-held g c = list_at-row c.args.rows.items
