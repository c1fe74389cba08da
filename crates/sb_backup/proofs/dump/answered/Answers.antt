use Rattle.std.proofs.Common.{None}
use Rattle.sb_backup.specs.Bounds.{bound_of}
use Rattle.sb_backup.proofs.Dumped.{leaves}
use Rattle.sb_backup.proofs.dump.answered.Goals as goal

pub returns-in-Ok-run_stream : goal.returns-in-Ok-run_stream
returns-in-Ok-run_stream g c =
    leaves c.args.run.tenants (bound_of c.args.run) c.in-Ok.cell c.run_stream.new.cell None None (g.R.Read.remaining c.args.reader.now) c.in-Ok.ensures c.in-Ok-run_stream.ensures.ok
