use Rattle.std.proofs.Common.{List, ℕ, subst, sym}
use Rattle.sb_durable.specs.RowJournal.{KeepRow}
use Rattle.sb_durable.proofs.batch_journal.SegmentedJournalBatchJournal.is_kept.Goals as goal

pub returns : goal.returns
returns g c base entries waiting has files left =
    subst (λ fs. KeepRow base.head entries fs) (sym left.4) (c.is_kept.ensures base.head base.older entries waiting has left.0 left.2 left.1 left.3)
