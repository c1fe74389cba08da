use Rattle.std.proofs.Common.{◌≡◌, ℕ, subst, arith}
use Rattle.sb_backup.specs.Bounds.{bound_of}
use Rattle.sb_backup.proofs.Loaded.{LoadedTo, all_loaded, none_loaded, one_loaded}
use Rattle.sb_backup.proofs.cell_loader.load_each.Goals as goal

pub loop-tenant-init : goal.loop-tenant-init
loop-tenant-init g c = none_loaded (g.S.ScriptSource.files c.args.scripts.now) c.args.run.tenants (bound_of c.args.run) c.args.cell.now c.requires

pub loop-tenant-preserved : goal.loop-tenant-preserved
loop-tenant-preserved g c =
    one_loaded (g.S.ScriptSource.files c.args.scripts.now) (bound_of c.args.run) c.loop-tenant.tenant c.args.cell.now c.loop-tenant.cell c.load_one.new.cell c.requires.at_most c.loop-tenant.invariant
    c.in-Ok.ensures.ok

pub returns-clause-ok : goal.returns-clause-ok
returns-clause-ok g c =
    let files = g.S.ScriptSource.files c.args.scripts.now in
    let k = c.loop-tenant.tenant in
    let all : k ≡ c.args.run.tenants = omega (arith, c.loop-tenant-test.false, c.loop-tenant.auto.tenant-end) in
    all_loaded files c.args.run.tenants (bound_of c.args.run) c.args.cell.now c.loop-tenant.cell c.requires
    (subst (λ (n : ℕ). LoadedTo files (bound_of c.args.run) n c.args.cell.now c.loop-tenant.cell) all c.loop-tenant.invariant)
