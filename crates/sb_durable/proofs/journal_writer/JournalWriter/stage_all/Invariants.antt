use Rattle.sb_durable.specs.RecordedTrails.{TakesParts}
use Rattle.sb_durable.proofs.journal_writer.JournalWriter.stage_all.Given as goal

abbrev pub invariant-loop-trail : goal.invariant-loop-trail
invariant-loop-trail g l = ∥ TakesParts g.B.BatchJournal ⊥ l.fn.self l.self ∥₁
