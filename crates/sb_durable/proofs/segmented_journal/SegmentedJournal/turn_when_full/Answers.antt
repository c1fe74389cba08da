use Rattle.std.proofs.Common.{◌++◌, ◌∷◌, [], refl}
use Rattle.sb_durable.specs.BatchJournals.{Base}
use Rattle.sb_durable.specs.RowJournals.{newest_of}
use Rattle.sb_durable.specs.RowReaders.{filed}
use Rattle.sb_durable.proofs.segmented_journal.SegmentedJournal.turn_when_full.Goals as goal

-- the newest segment is an older one then
pub returns-in-Ok : goal.returns-in-Ok
returns-in-Ok g c clean base entries waiting has =
    let full = filed (newest_of c.args.self.now.row) has.contents in
    let later : Base = record { head = base.head; older = base.older ++ full ∷ [] } in
    (later, record { same = refl; more = full ∷ []; older = refl }, c.in-Ok.ensures.ok clean base.head base.older entries waiting has)
