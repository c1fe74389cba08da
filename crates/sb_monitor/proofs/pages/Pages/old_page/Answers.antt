use Rattle.std.proofs.Common.{refl}
use Rattle.sb_monitor.proofs.pages.Pages.old_page.Goals as goal

-- what is kept is of the tenant at its place
pub returns-in_ok-view_shown-in-Some-clause-page : goal.returns-in_ok-view_shown-in-Some-clause-page
returns-in_ok-view_shown-in-Some-clause-page g c = (
  c.in_ok-view_shown-in-Some.ensures.0,
  c.in_ok-view_shown-in-Some.ensures.1,
  (
    c.args.place,
    refl,
    c.in-Some.view.now,
    c.in-Some.ensures.own c.args.self.now.first_tenant (c.tell_age.ensures.own c.args.self.now.first_tenant c.requires.cache),
    c.in_ok-view_shown-in-Some.ensures.2,
  ),
)
