use Rattle.std.proofs.Common.{sym, ap, ◌∙◌}
use Rattle.sb_host.specs.Renewing.{VolumeStubs, held_by}
use Rattle.sb_host.proofs.VolumeRows.{list_at-row}
use Rattle.sb_host.proofs.volume_stubs.VolumeStubs.into_rows.Goals as goal

pub returns-clause-held : goal.returns-clause-held
returns-clause-held g c = λ s. ap (λ (v : VolumeStubs). held_by v s) (sym c.self.view_is) ∙ list_at-row c.self.inside.rows.items s
