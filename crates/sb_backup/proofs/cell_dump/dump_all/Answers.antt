use Rattle.sb_backup.specs.Bounds.{bound_of}
use Rattle.sb_backup.proofs.Written.{all_written, some_unwritten, stream_fault}
use Rattle.sb_backup.proofs.cell_dump.dump_all.Goals as goal

pub returns-in-Err-clause-err : goal.returns-in-Err-clause-err
returns-in-Err-clause-err g c = stream_fault c.args.asked.tenants (bound_of c.args.asked) (g.R.Read.remaining c.args.reader.now) c.in-Err.error

pub returns-in-None-clause-ok : goal.returns-in-None-clause-ok
returns-in-None-clause-ok g c =
    all_written c.args.asked.tenants (bound_of c.args.asked) c.in-Ok.cell (g.R.Read.remaining c.args.reader.now) c.in-Ok.ensures (c.write_each.ensures.all c.in-None.is)

pub returns-clause-err : goal.returns-clause-err
returns-clause-err g c =
    some_unwritten c.args.asked.tenants (bound_of c.args.asked) c.in-Ok.cell (g.R.Read.remaining c.args.reader.now) c.in-Some-write_each.why c.in-Ok.ensures c.in-Some-write_each.ensures.why
