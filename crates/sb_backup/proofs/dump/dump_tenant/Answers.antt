use Rattle.sb_backup.specs.Bounds.{bound_of}
use Rattle.sb_backup.proofs.Dumped.{dumps, refuses, stream_failed}
use Rattle.sb_backup.proofs.dump.dump_tenant.Goals as goal

pub returns-in-Err-clause-err : goal.returns-in-Err-clause-err
returns-in-Err-clause-err g c =
    stream_failed c.args.asked.run.tenants (bound_of c.args.asked.run) c.args.asked.tenant (g.R.Read.remaining c.args.reader.now) c.in-Err.error

pub returns-in-Err-script_of-clause-err : goal.returns-in-Err-script_of-clause-err
returns-in-Err-script_of-clause-err g c =
    refuses c.args.asked.run.tenants (bound_of c.args.asked.run) c.args.asked.tenant c.in-Ok.cell (g.R.Read.remaining c.args.reader.now) c.in-Err-script_of.why c.in-Ok.ensures c.in-Err-script_of.ensures.err

pub returns-in-Ok-write_script-clause-ok : goal.returns-in-Ok-write_script-clause-ok
returns-in-Ok-write_script-clause-ok g c =
    dumps c.args.asked.run.tenants (bound_of c.args.asked.run) c.args.asked.tenant c.in-Ok.cell (g.R.Read.remaining c.args.reader.now) (g.W.Write.contents c.args.writer.now)
    (g.W.Write.contents c.write_script.new.writer) c.in-Ok-script_of.script c.in-Ok.ensures c.in-Ok-script_of.ensures.ok c.in-Ok-write_script.ensures

pub returns-clause-err : goal.returns-clause-err
returns-clause-err g c =
    stream_failed c.args.asked.run.tenants (bound_of c.args.asked.run) c.args.asked.tenant (g.R.Read.remaining c.args.reader.now) c.in-Err-write_script.error
