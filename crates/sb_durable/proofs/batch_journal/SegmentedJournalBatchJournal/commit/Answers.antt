use Rattle.sb_durable.proofs.BatchJournals.{may_files, still_row}
use Rattle.sb_durable.proofs.batch_journal.SegmentedJournalBatchJournal.commit.Goals as goal

pub returns-in-Ok-clause-any_moment : goal.returns-in-Ok-clause-any_moment
returns-in-Ok-clause-any_moment g c base entries waiting has files left =
    may_files base entries waiting files left.0 left.1 left.4 (c.commit.ensures.any_moment base.head base.older entries waiting has left.0 left.2 left.1 left.3)

pub returns-in-Err-clause-any_moment : goal.returns-in-Err-clause-any_moment
returns-in-Err-clause-any_moment g c base entries waiting has files left =
    may_files base entries waiting files left.0 left.1 left.4 (c.commit.ensures.any_moment base.head base.older entries waiting has left.0 left.2 left.1 left.3)

pub returns-in-Err-clause-err : goal.returns-in-Err-clause-err
returns-in-Err-clause-err g c = still_row g.D.Disk.seen g.D.Disk.may_leave _ _ c.in-Err.ensures.err
