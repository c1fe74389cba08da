use Rattle.sb_backup.proofs.Loaded.{each_sent, where_ok}
use Rattle.sb_backup.proofs.cell_loader.send_lines.Goals as goal

-- the lines were sent, and the session stands where a script may end
pub returns-in-Ok : goal.returns-in-Ok
returns-in-Ok g c =
    let taken = c.in-Ok.ensures in
    where_ok c.check_end.result
    (λ settled. (taken.0, taken.1, each_sent c.args.tenant taken.0 c.args.cell.now c.play_lines.new.to taken.2, settled)) c.check_end.ensures.ok
