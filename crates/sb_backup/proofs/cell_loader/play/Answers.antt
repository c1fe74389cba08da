use Rattle.std.proofs.Common.{◌∷◌, ◌++◌, [], codes}
use Rattle.sb_backup.proofs.Loaded.{sends_both, where_ok}
use Rattle.sb_backup.proofs.cell_loader.play.Goals as goal

-- the session is opened, the lines are sent, and it is ended
pub returns : goal.returns
returns g c =
    let t = c.args.tenant in
    let sent = c.in-Ok-send_lines.ensures in
    let ended = c.send_own-2.new.cell in
    where_ok c.send_own-2.result
    (λ end. (
      sent.0,
      sent.1,
      sends_both c.args.cell.now c.send_own.new.cell ended t (codes "open" ∷ []) (sent.0 ++ codes "end" ∷ []) c.in-Ok.ensures
          (sends_both c.send_own.new.cell c.send_lines.new.cell ended t sent.0 (codes "end" ∷ []) sent.2 end),
    ))
    c.send_own-2.ensures
