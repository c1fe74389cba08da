use Rattle.std.proofs.Common.{◌*◌, ◌≤◌, subst, arith}
use Rattle.sb_cell.specs.contracts.cell.Cell.{the_view}
use Rattle.sb_cell.specs.Hosting.{entry_count}
use Rattle.sb_cell.specs.Tenants.{Cell, HasLegalTrails}
use Rattle.sb_cell.proofs.Cells.{few_entries}
use Rattle.sb_cell.proofs.Running.{begins_legal}
use Rattle.sb_cell.proofs.cell.Cell.keeps_trails.Goals as goal
use Rattle.sb_tenant.specs.Limits.{entry_limit}

pub returns-clause-legal : goal.returns-clause-legal
returns-clause-legal c = subst HasLegalTrails c.self.view_is (begins_legal (the_view c.self.inside) c.self.invariant)

pub returns-clause-few : goal.returns-clause-few
returns-clause-few c =
    let entries = few_entries c.trails_are_bounded.ensures c.self.inside.tenants.items (λ place v at. (c.self.invariant.tenants place v at).legal) in
    let few = c.self.invariant.few in
    subst (λ (x : Cell). entry_count x.tenants ≤ 256 * entry_limit) c.self.view_is (omega (arith, entries, few))
