use Rattle.std.proofs.Common.{List, ℕ, subst}
use Rattle.sb_durable.proofs.batch_journal.SegmentedJournalBatchJournal.stage.Goals as goal

pub returns-in-Ok-clause-leaves : goal.returns-in-Ok-clause-leaves
returns-in-Ok-clause-leaves g c base files left = (left.0, left.1, left.2, subst (λ d. g.D.Disk.may_leave d left.1) c.stage.ensures.disk left.3, left.4)

pub returns-in-Err-clause-leaves : goal.returns-in-Err-clause-leaves
returns-in-Err-clause-leaves g c base files left = (left.0, left.1, left.2, subst (λ d. g.D.Disk.may_leave d left.1) c.stage.ensures.disk left.3, left.4)
