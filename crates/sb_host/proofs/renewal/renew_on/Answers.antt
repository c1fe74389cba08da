use Rattle.std.proofs.Common.{refl, ap, sym, ◌∙◌, subst}
use Rattle.sb_tenant.specs.Tenant.{Tenant}
use Rattle.sb_cell.specs.declared.renewal.Unrenewed.{Unrenewed}
use Rattle.sb_cell.specs.Renewal.{IsNotRenewed, Renews}
use Rattle.sb_host.specs.declared.renewal.RenewError.TheVariants.{Refused}
use Rattle.sb_host.specs.Finish.{row_at}
use Rattle.sb_host.proofs.Renewals.{keeps_rows, held_entries, late, of_old, unrenewed_by}
use Rattle.sb_host.proofs.renewal.renew_on.Goals as goal

-- before the cell is asked
pub returns-in-Err-clause-err : goal.returns-in-Err-clause-err
returns-in-Err-clause-err g c =
    (refl, unrenewed_by c.args.stubs c.into_rows-tenant.result.1.items c.into_rows-tenant.ensures.held c.args.desk.now c.args.fresh c.in-Err.error c.in-Err.ensures.err)

pub returns-in-Err-clause-back : goal.returns-in-Err-clause-back
returns-in-Err-clause-back g c = (
  refl,
  keeps_rows c.args.stubs c.into_rows-tenant.result.1.items c.into_rows-tenant.ensures.held c.of-stubs.result c.compare_on.new.rows.items (c.of-stubs.ensures.tenant ∙ c.into_rows-tenant.ensures.tenant.0) c.of-stubs.ensures.held c.compare_on.ensures.same,
)

-- renewed
pub returns-in-Ok-clause-ok : goal.returns-in-Ok-clause-ok
returns-in-Ok-clause-ok g c =
    let rows = c.into_rows-tenant.result.1.items in
    let old : Tenant = c.into_parts-old.result.0 in
    let renews = subst (λ (o : Tenant). Renews c.args.desk.now o c.args.fresh c.renew.new.self) (sym c.into_parts-old.ensures.old) c.in-Ok.ensures.ok.0 in
    (renews, held_entries c.args.stubs rows c.into_rows-tenant.ensures.held old.trail (of_old c.args.desk.now (row_at rows) c.args.fresh c.in_default.ensures.ok old c.renew.new.self renews))

pub returns-in-Ok-clause-next : goal.returns-in-Ok-clause-next
returns-in-Ok-clause-next g c = (
  c.of-stubs-in-Ok.ensures.tenant ∙ c.into_rows-tenant.ensures.tenant.0,
  λ s small. c.of-stubs-in-Ok.ensures.held s ∙ c.requires.opening.2 s small,
)

-- the cell refuses
pub returns-in-Err-renew-clause-err : goal.returns-in-Err-renew-clause-err
returns-in-Err-renew-clause-err g c =
    let rows = c.into_rows-tenant.result.1.items in
    let e = c.in-Err-renew.ensures.err in
    let why = subst (λ (x : Unrenewed). IsNotRenewed c.args.desk.now c.args.fresh x.error) (sym c.into_parts-refused.ensures.refused) e.2 in
    (e.0, unrenewed_by c.args.stubs rows c.into_rows-tenant.ensures.held c.args.desk.now c.args.fresh (Refused c.into_parts-refused.result.0.error) (late c.args.desk.now (row_at rows) c.args.fresh c.in_default.ensures.ok c.into_parts-refused.result.0.error why))

pub returns-in-Err-renew-clause-back : goal.returns-in-Err-renew-clause-back
returns-in-Err-renew-clause-back g c = (
  ap (λ (x : Unrenewed). x.fresh) c.into_parts-refused.ensures.refused ∙ c.in-Err-renew.ensures.err.1,
  keeps_rows c.args.stubs c.into_rows-tenant.result.1.items c.into_rows-tenant.ensures.held c.of-stubs-in-Err-renew.result c.compare_on.new.rows.items (c.of-stubs-in-Err-renew.ensures.tenant ∙ c.into_rows-tenant.ensures.tenant.0) c.of-stubs-in-Err-renew.ensures.held c.compare_on.ensures.same,
)
