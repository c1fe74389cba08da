use Rattle.sb_backup.specs.Calls.{LeaveAll}
use Rattle.sb_backup.proofs.host_loader.load_all.Given as goal

-- the tenants so far left these
abbrev pub invariant-loop-tenant : goal.invariant-loop-tenant
invariant-loop-tenant g l = LeaveAll (g.S.ScriptSource.files l.scripts) l.tenant l.stubs.items
