use Rattle.std.proofs.Common.{List, [], ◌∷◌, ◌++◌, sym, subst}
use Rattle.sb_durable.specs.Records.{Entry}
use Rattle.sb_durable.specs.RowJournal.{KeepRow}
use Rattle.sb_durable.specs.RowReaders.{filed}
use Rattle.sb_durable.proofs.RowJournals.{keep_now}
use Rattle.sb_durable.proofs.SegmentCrash.{left_now}
use Rattle.sb_durable.proofs.row_journal.RowJournal.is_kept.Goals as goal

pub returns : goal.returns
returns g c head older entries waiting has files are file left =
    subst (λ (rs : List Entry). KeepRow head rs (files ++ file ∷ [])) (sym has.all)
    (keep_now head has.batches older (filed c.args.self.now.newest has.contents) has.row has.settings has.bytes files are file (left_now _ _ _ has.contents has.newest file left))
