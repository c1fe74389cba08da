use Rattle.std.proofs.Common.{ap, Err}
use Rattle.sb_backup.proofs.Dumped.{undumped}
use Rattle.sb_backup.proofs.dump.script_of.Goals as goal

pub returns-in-Err-clause-err : goal.returns-in-Err-clause-err
returns-in-Err-clause-err c =
    rw (c.undumped.ensures, c.from-in-Err.ensures)
    (undumped c.args.cell.now c.args.asked.tenant c.in-Some.tenant.now c.in-Err.error c.in-Some.ensures.found (λ e. c.in-Err.ensures.busy.0 (ap Err e)))
