use Rattle.sb_backup.proofs.Loaded.{one_sent}
use Rattle.sb_backup.proofs.cell_loader.send_own.Goals as goal

pub returns-in-Ok : goal.returns-in-Ok
returns-in-Ok c =
    let sent = c.in-Ok.ensures.ok in one_sent c.args.cell.now c.send.new.cell c.args.tenant c.args.line.now sent.0 sent.1 sent.2
