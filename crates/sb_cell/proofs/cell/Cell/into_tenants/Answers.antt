use Rattle.std.proofs.Common.{◌≡◌, ℕ, All, true, subst}
use Rattle.std.specs.List.{Contains}
use Rattle.sb_tenant.specs.Tenant.{Tenant}
use Rattle.sb_cell.specs.contracts.cell.Cell.{the_view}
use Rattle.sb_cell.specs.Tenants.{Cell, IsTenantOf, hosts}
use Rattle.sb_cell.proofs.Hosted.{all_hosted, everyone}
use Rattle.sb_cell.proofs.cell.Cell.into_tenants.Goals as goal

pub returns-clause-hosted : goal.returns-clause-hosted
returns-clause-hosted c =
    subst (λ (x : Cell). All (IsTenantOf x) c.self.inside.tenants.items) c.self.view_is
    (all_hosted (the_view c.self.inside) c.self.invariant)

pub returns-clause-whole : goal.returns-clause-whole
returns-clause-whole c =
    subst (λ (x : Cell). (t : ℕ) → hosts x t ≡ true → (own : Tenant) × Contains c.self.inside.tenants.items own × (own.id ≡ t)) c.self.view_is
    (everyone (the_view c.self.inside) c.self.invariant)
