use Rattle.std.proofs.Common.{◌∙◌, ◌<◌, Option, arith, subst, sym}
use Rattle.std.specs.Prelude.{IfSome}
use Rattle.sb_backup.specs.Dumps.{FirstUnwritten}
use Rattle.sb_backup.specs.declared.error.BackupError.{BackupError}
use Rattle.sb_backup.proofs.Written.{first_why, one_more, still_none}
use Rattle.sb_backup.proofs.cell_dump.write_each.Goals as goal
use Rattle.sb_backup.proofs.cell_dump.write_each.Goals.{in-Ok, in-Err}

-- the tenant's file is written, or there is a fault from now on
pub loop-tenant-preserved : goal.loop-tenant-preserved
loop-tenant-preserved g c =
    let P : BackupError → Type 0 = FirstUnwritten c.args.tenants c.args.files.now.bound c.args.cell.now in
    let so_far = c.loop-tenant.invariant in
    let k = c.loop-tenant.tenant in
    let below : k < c.args.tenants = omega (arith, c.loop-tenant-test.true) in
    elim c.match-write_one.branch [
      | in-Ok w ↦ record {
        all = λ none. one_more c.args.files.now.bound k c.args.cell.now (so_far.all (sym w.first-is ∙ none)) w.in-Ok.ensures.ok;
        why = subst (λ (o : Option BackupError). IfSome o P) (sym w.first-is) so_far.why;
      }
      | in-Err w ↦ record {
        all = λ none. still_none c.loop-tenant.first w.earlier-first.result w.in-Err.why w.earlier-first.ensures (sym w.first-is ∙ none);
        why = subst (λ (o : Option BackupError). IfSome o P) (sym w.first-is)
            (first_why P c.loop-tenant.first w.earlier-first.result w.in-Err.why so_far.why (λ missing. (k, below, so_far.all missing, w.in-Err.ensures.err)) w.earlier-first.ensures);
      }
    ]
