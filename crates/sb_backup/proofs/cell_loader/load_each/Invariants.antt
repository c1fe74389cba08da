use Rattle.sb_backup.specs.Bounds.{bound_of}
use Rattle.sb_backup.proofs.Loaded.{LoadedTo}
use Rattle.sb_backup.proofs.cell_loader.load_each.Given as goal

-- the tenants so far are made
abbrev pub invariant-loop-tenant : goal.invariant-loop-tenant
invariant-loop-tenant g l = LoadedTo (g.S.ScriptSource.files l.scripts) (bound_of l.fn.run) l.tenant l.fn.cell l.cell
