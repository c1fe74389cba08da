use Rattle.std.proofs.Common.{◌≡◌, ◌∙◌, ap, sym, subst, true}
use Rattle.sb_tenant.specs.State.{State, table_seen}
use Rattle.sb_cell.specs.contracts.cell.Cell.{the_view}
use Rattle.sb_cell.specs.Tenants.{Cell, hosts, states}
use Rattle.sb_cell.proofs.Hosted.{nobody, read_at}
use Rattle.sb_cell.proofs.Memory.{shown}
use Rattle.sb_cell.proofs.cell.Cell.table.Goals as goal

pub returns-then-hosts : goal.returns-then-hosts
returns-then-hosts c =
    let hosted = subst (λ (v : Cell). hosts v c.args.tenant ≡ true) (sym c.self.view_is) (sym c.hosts.ensures ∙ c.if-hosts.true) in
    c.table.ensures
    ∙ ap (λ (st : State). table_seen st c.args.name.now)
    (shown (the_view c.self.inside) c.self.invariant c.args.tenant c.index.result.now hosted (read_at (the_view c.self.inside) c.args.tenant hosted c.index.result.now c.index.ensures) ∙ ap (λ (v : Cell). states v c.args.tenant) c.self.view_is)

pub returns-else-hosts : goal.returns-else-hosts
returns-else-hosts c = ap (λ (st : State). table_seen st c.args.name.now) (nobody c.args.self.now c.args.tenant (sym c.hosts.ensures ∙ c.if-hosts.false))
