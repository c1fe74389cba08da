use Rattle.std.proofs.Common.{◌⊎◌, List, ℕ, inl, inr}
use Rattle.std.proofs.lemmas.Result.{on_ok_weaker, on_err_weaker}
use Rattle.sb_durable.proofs.BatchJournals.{still_file, may_file}
use Rattle.sb_durable.proofs.batch_journal.JournalBatchJournal.commit.Goals as goal

pub returns-clause-ok : goal.returns-clause-ok
returns-clause-ok g c = on_ok_weaker c.commit.result (λ e base entries waiting has. (has.0, e base.head entries waiting has.1)) c.commit.ensures.ok

pub returns-clause-err : goal.returns-clause-err
returns-clause-err g c = on_err_weaker c.commit.result (still_file g.D.Disk.seen g.D.Disk.may_leave _ _) c.commit.ensures.err

pub returns-clause-any_moment : goal.returns-clause-any_moment
returns-clause-any_moment g c base entries waiting has files left = may_file base entries waiting files left.0 left.2 (c.commit.ensures.any_moment base.head entries waiting has.1 left.0 left.1)
