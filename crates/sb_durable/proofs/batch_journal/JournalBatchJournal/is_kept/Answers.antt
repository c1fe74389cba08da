use Rattle.sb_durable.proofs.batch_journal.JournalBatchJournal.is_kept.Goals as goal

pub returns : goal.returns
returns g c base entries waiting has files left = (left.0, c.is_kept.ensures base.head entries waiting has.1 left.0 left.1, left.2)
