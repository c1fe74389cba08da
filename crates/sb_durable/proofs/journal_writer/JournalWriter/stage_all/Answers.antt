use Rattle.sb_durable.proofs.NotedTrails.{parts_none, parts_then}
use Rattle.sb_durable.proofs.Parts.{on_err}
use Rattle.sb_durable.proofs.journal_writer.JournalWriter.stage_all.Goals as goal

pub loop-trail-init : goal.loop-trail-init
loop-trail-init g c = parts_none g.B.BatchJournal ⊥ c.args.self.now c.is_kept.ensures

pub loop-trail-preserved : goal.loop-trail-preserved
loop-trail-preserved g c = parts_then g.B.BatchJournal ⊥ _ _ _ c.loop-trail.invariant c.in_ok-stage_trail.ensures.ok

pub returns-in_err-stage_trail-clause-err : goal.returns-in_err-stage_trail-clause-err
returns-in_err-stage_trail-clause-err g c =
    on_err c.from_residual.result (parts_then g.B.BatchJournal (g.B.BatchJournal.is_over c.stage_trail.new.self.journal) _ _ _ c.loop-trail.invariant c.in_err-stage_trail.ensures.err)
