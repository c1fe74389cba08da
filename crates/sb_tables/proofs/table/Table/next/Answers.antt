use Rattle.std.proofs.Common.{subst}
use Rattle.sb_tables.specs.Slots.{live_rows}
use Rattle.sb_tables.specs.Stored.{IsStored}
use Rattle.sb_tables.proofs.RowLaws.{rises_below, rises_rising}
use Rattle.sb_tables.proofs.SlotLaws.{live_rises, live_places}
use Rattle.sb_tables.proofs.table.Table.next.Goals as goal

pub returns-clause-sound : goal.returns-clause-sound
returns-clause-sound c =
    let ss = c.self.inside.slots.items in let next = c.self.inside.next in
    let rises = live_rises 0 ss next c.self.invariant.rises in
    subst IsStored c.self.view_is ((rises_below 0 (live_rows ss) next rises, rises_rising 0 (live_rows ss) next rises), live_places ss)
