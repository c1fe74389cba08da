use Rattle.std.proofs.Common.{◌≡◌, ◌∙◌, ap, sym, subst, true}
use Rattle.sb_tenant.specs.State.{State, has_transaction, session_at}
use Rattle.sb_cell.specs.contracts.cell.Cell.{the_view}
use Rattle.sb_cell.specs.Tenants.{Cell, hosts, states}
use Rattle.sb_cell.proofs.Hosted.{read_at}
use Rattle.sb_cell.proofs.Memory.{shown}
use Rattle.sb_cell.proofs.cell.Cell.has_transaction.Goals as goal

pub returns : goal.returns
returns c =
    let hosted = subst (λ (v : Cell). hosts v c.args.tenant ≡ true) (sym c.self.view_is) c.requires in
    c.has_transaction.ensures
    ∙ ap (λ (st : State). has_transaction (session_at st c.args.session))
    (shown (the_view c.self.inside) c.self.invariant c.args.tenant c.index.result.now hosted (read_at (the_view c.self.inside) c.args.tenant hosted c.index.result.now c.index.ensures) ∙ ap (λ (v : Cell). states v c.args.tenant) c.self.view_is)
