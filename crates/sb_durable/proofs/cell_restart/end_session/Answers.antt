use Rattle.std.proofs.Common.{◌≡◌, codes, Some}
use Rattle.sb_durable.proofs.Crashes.{tells_more}
use Rattle.sb_durable.proofs.cell_restart.end_session.Goals as goal

pub returns-in-Ok-clause-keeps : goal.returns-in-Ok-clause-keeps
returns-in-Ok-clause-keeps g c head tells =
    let made = c.in-Ok-Ok.ensures.made in
    tells_more g.D.Disk.seen g.D.Disk.may_leave (Some (record { tenant = c.args.tenant; session = c.args.session; line = codes "end" }, made.0)) (c.args.cell.now, c.args.recording.now) (c.step.new.cell, c.step.new.recording) head made.1 c.step.ensures.same made.3.1 tells
