use Rattle.std.proofs.Common.{◌∙◌, ap, slice_get}
use Rattle.std.proofs.lemmas.Option.{slice_get_within}
use Rattle.sb_durable.proofs.NotedTrails.{noted_taken, parts_then}
use Rattle.sb_durable.proofs.Parts.{on_err}
use Rattle.sb_durable.proofs.journal_writer.JournalWriter.stage_behind.Goals as goal

pub returns-in_err-make_room-clause-err : goal.returns-in_err-make_room-clause-err
returns-in_err-make_room-clause-err g c = on_err c.from_residual.result c.in_err-make_room.ensures.err

pub stage_noted-staged-requires : goal.stage_noted-staged-requires
stage_noted-staged-requires g c = slice_get_within _ _ c.args.trail.now.recorded (ap (λ xs. slice_get xs.items c.args.trail.now.tenant) c.make_room.ensures.counts ∙ c.requires)

pub returns-in-Ok-clause-ok : goal.returns-in-Ok-clause-ok
returns-in-Ok-clause-ok g c =
    let trail = c.args.trail.now in
    let there = ap (λ xs. slice_get xs.items trail.tenant) c.make_room.ensures.counts ∙ c.requires in
    parts_then g.B.BatchJournal ⊥ _ _ _ c.in_ok-make_room.ensures.ok
    (noted_taken g.B.BatchJournal ⊥ _ _ trail.tenant trail.recorded trail.notes _ there trail.read c.stage_noted-staged.ensures.staged c.is_kept.ensures)

pub returns-in-Err-clause-err : goal.returns-in-Err-clause-err
returns-in-Err-clause-err g c =
    let trail = c.args.trail.now in
    let there = ap (λ xs. slice_get xs.items trail.tenant) c.make_room.ensures.counts ∙ c.requires in
    parts_then g.B.BatchJournal (g.B.BatchJournal.is_over c.stage_noted-staged.new.self.journal) _ _ _ c.in_ok-make_room.ensures.ok
    (noted_taken g.B.BatchJournal _ _ _ trail.tenant trail.recorded trail.notes _ there trail.read c.stage_noted-staged.ensures.staged c.is_kept.ensures)
