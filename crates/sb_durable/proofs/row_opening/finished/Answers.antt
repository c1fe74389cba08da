use Rattle.std.proofs.Common.{◌++◌, ◌∷◌, [], List, IsTrue, refl, sym, subst}
use Rattle.sb_durable.specs.Journal.{all_of}
use Rattle.sb_durable.specs.Records.{Entry}
use Rattle.sb_durable.specs.RowJournals.{HasRow, newest_of}
use Rattle.sb_durable.specs.RowReaders.{filed}
use Rattle.sb_durable.proofs.row_opening.finished.Goals as goal

pub returns-in_default : goal.returns-in_default
returns-in_default g c = (
  refl,
  λ clean none head records read. (
    read.older,
    subst (λ (rs : List Entry). HasRow g.D.Disk.seen g.D.Disk.may_leave c.in-Ok.journal head read.older rs []) (sym read.all) (c.in-Ok.ensures.ok clean head read.older read.contents read.batches read.read read.bytes),
  ),
)

-- the newest file was begun
pub returns-in-Ok-turn : goal.returns-in-Ok-turn
returns-in-Ok-turn g c = (
  refl,
  λ clean sure head records read.
      let was = c.in-Ok.ensures.ok (subst (λ d. IsTrue (g.D.Disk.is_clean d)) c.in-Ok-turn.ensures.full sure) head read.older read.contents read.batches read.read read.bytes in
      let older = read.older ++ filed (newest_of c.in-Ok.journal) was.contents ∷ [] in
      (older, subst (λ (rs : List Entry). HasRow g.D.Disk.seen g.D.Disk.may_leave c.turn.new.self head older rs []) (sym read.all) (c.in-Ok-turn.ensures.ok clean head read.older (all_of read.batches) [] was)),
)
