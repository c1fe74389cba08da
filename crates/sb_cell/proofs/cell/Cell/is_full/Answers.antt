use Rattle.std.proofs.Common.{◌≡◌, ◌∙◌, ap, sym, subst, true, nat_le}
use Rattle.sb_tenant.specs.Limits.{trail_limit}
use Rattle.sb_tenant.specs.State.{State}
use Rattle.sb_cell.specs.contracts.cell.Cell.{the_view}
use Rattle.sb_cell.specs.Tenants.{Cell, hosts, states}
use Rattle.sb_cell.proofs.Hosted.{read_at}
use Rattle.sb_cell.proofs.Memory.{shown}
use Rattle.sb_cell.proofs.cell.Cell.is_full.Goals as goal

pub returns : goal.returns
returns c =
    let hosted = subst (λ (v : Cell). hosts v c.args.tenant ≡ true) (sym c.self.view_is) c.requires in
    c.is_full.ensures
    ∙ ap (λ (st : State). nat_le trail_limit st.steps)
    (shown (the_view c.self.inside) c.self.invariant c.args.tenant c.index.result.now hosted (read_at (the_view c.self.inside) c.args.tenant hosted c.index.result.now c.index.ensures) ∙ ap (λ (v : Cell). states v c.args.tenant) c.self.view_is)
