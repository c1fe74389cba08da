use Rattle.sb_durable.proofs.NotedTrails.{parts_none}
use Rattle.sb_durable.proofs.journal_writer.JournalWriter.stage_trail.Goals as goal

-- it is recorded further by now
pub returns-in-false-clause-ok : goal.returns-in-false-clause-ok
returns-in-false-clause-ok g c = parts_none g.B.BatchJournal ⊥ c.args.self.now c.is_kept.ensures
