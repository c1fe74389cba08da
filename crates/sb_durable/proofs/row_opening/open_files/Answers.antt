use Rattle.std.proofs.lemmas.Result.{IfOk-weaker}
use Rattle.sb_durable.proofs.RowReplays.{opens_row}
use Rattle.sb_durable.proofs.row_opening.open_files.Goals as goal

pub returns-in-Ok : goal.returns-in-Ok
returns-in-Ok g c =
    let disk = g.D.Disk in
    IfOk-weaker c.finished.result _ _
    (λ opened h. opens_row (g.F.SegmentFiles.has c.args.files.now) disk.seen disk.may_leave disk.is_clean g.S.Plays.plays _ _ c.in-Ok.read.reader _ c.in-Ok.read.unbegun c.in-Ok.read.records c.in-Ok.ensures.reads opened.journal opened.full opened.records h.0 h.1)
    c.finished.ensures
