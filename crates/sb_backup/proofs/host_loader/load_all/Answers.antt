use Rattle.sb_backup.proofs.Called.{one_more}
use Rattle.sb_backup.proofs.host_loader.load_all.Goals as goal

pub loop-tenant-preserved : goal.loop-tenant-preserved
loop-tenant-preserved g c =
    one_more (g.S.ScriptSource.files c.args.scripts.now) c.loop-tenant.tenant c.loop-tenant.stubs.items c.add.new.stubs.items c.in-Ok.own c.loop-tenant.invariant
    c.in-Ok.ensures.ok c.in-Ok-add.ensures.ok
