use Rattle.std.proofs.Common.{Option, subst, sym}
use Rattle.sb_status.specs.TenantViews.{IsFoundView}
use Rattle.sb_status.specs.declared.view.TenantView.{TenantView}
use Rattle.sb_monitor.proofs.pages.Pages.tenant_page.Goals as goal

-- the view is that of the tenant at its place
pub returns-in_ok-shown-in-Some-found-clause-page : goal.returns-in_ok-shown-in-Some-found-clause-page
returns-in_ok-shown-in-Some-found-clause-page g c = (
  c.in_ok-shown-in-Some-found.ensures.0,
  c.in_ok-shown-in-Some-found.ensures.1,
  (
    c.in-Some.place,
    sym c.in-Some.ensures.1,
    c.in-Some-found.view,
    subst (λ (found : Option TenantView). IsFoundView c.args.self.now.first_tenant c.in-Some.place found) c.in-Some-found.is c.in_ok-found.ensures,
    c.in_ok-shown-in-Some-found.ensures.2,
  ),
)
