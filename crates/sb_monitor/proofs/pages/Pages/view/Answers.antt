use Rattle.std.proofs.Common.{Option, subst}
use Rattle.sb_status.specs.TenantViews.{IsFoundView}
use Rattle.sb_status.specs.declared.view.TenantView.{TenantView}
use Rattle.sb_tenant.specs.Limits.{session_count}
use Rattle.sb_monitor.proofs.Shown.{aged_sessions}
use Rattle.sb_monitor.proofs.pages.Pages.view.Goals as goal

-- with its ages it is what it was
pub returns : goal.returns
returns g c =
    let first = c.args.self.now.first_tenant in
    let view = c.in-Some.view in
    let found = subst (λ (found : Option TenantView). IsFoundView first c.args.place found) c.in-Some.is c.in_ok-found.ensures in (
      found.0,
      found.1,
      record {
        numbers = c.add_board_numbers.ensures first found.0 found.2.numbers;
        sessions = aged_sessions found.0 session_count view.sessions.items c.tell_ages.new.sessions.items found.2.sessions c.tell_ages.ensures;
        rules = found.2.rules;
      },
    )
