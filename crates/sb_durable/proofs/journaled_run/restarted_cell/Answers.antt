use Rattle.sb_backup.specs.Bounds.{bound_of}
use Rattle.sb_durable.proofs.Journals.{begun_by}
use Rattle.sb_durable.proofs.journaled_run.restarted_cell.Goals as goal

-- the records that a restart found make a fresh cell
pub returns-in-Ok-restart-clause-cell : goal.returns-in-Ok-restart-clause-cell
returns-in-Ok-restart-clause-cell g c =
    let made = c.in-Ok-restart.ensures.restarts in
    (made.0, begun_by c.args.asked.tenants (bound_of c.args.asked) c.in-Ok.cell c.restart.new.cell made.0 c.in-Ok.ensures c.in-Ok-restart.ensures.same made.1, made.2)
