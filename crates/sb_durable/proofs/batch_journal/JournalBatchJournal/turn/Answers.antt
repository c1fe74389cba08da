use Rattle.sb_durable.proofs.BatchJournals.{later_same}
use Rattle.sb_durable.proofs.batch_journal.JournalBatchJournal.turn.Goals as goal

pub returns : goal.returns
returns g c clean base entries waiting has = (base, later_same base, has)
