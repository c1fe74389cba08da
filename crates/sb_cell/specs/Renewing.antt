-- Machine: the two parts of a renewal: the fresh tenant is made the next one, and is put in its place.
use Rattle.std.specs.Prelude.{◌≡◌, ℕ, true, ◌==◌, Some, IsFalse}
use Rattle.sb_tenant.specs.Alike.{AreAlikeAtRest}
use Rattle.sb_tenant.specs.Lending.{InStep}
use Rattle.sb_tenant.specs.Tenant.{Tenant, IsLegal, state}
use Rattle.sb_tenant.specs.Volumes.{AreClosed}
use Rattle.sb_cell.specs.Renewal.{IsNextVolume}
use Rattle.sb_cell.specs.Tenants.{Cell, IsSame, hosts, tenant_at}

-- a tenant that may stand in the place of its number
pub record MayStand (c : Cell) (next : Tenant) : Type 0 where
  pub hosted : hosts c next.id ≡ true
  pub bound : next.bound ≡ c.bound
  pub legal : IsLegal next
  pub in_step : InStep next c.records c.clock c.index

-- the tenant of the fresh one's number, which is alike, and what the fresh one is behind it
pub record IsMadeNext (c : Cell) (fresh next : Tenant) : Type 0 where
  pub old : Tenant
  pub before : tenant_at c fresh.id ≡ Some old
  pub id : fresh.id ≡ old.id
  pub bounds : (old.bound ≡ c.bound) × (fresh.bound ≡ c.bound)
  pub closed : AreClosed (state old)
  pub closed_too : AreClosed (state fresh)
  pub alike : AreAlikeAtRest (state old) (state fresh)
  pub follows : IsNextVolume old fresh next
  pub stands : MayStand c next

-- the tenant is put in the place of another one of its number
pub record Puts (c : Cell) (next old : Tenant) (c' : Cell) : Type 0 where
  pub before : tenant_at c next.id ≡ Some old
  pub behind : tenant_at c' next.id ≡ Some next
  pub others : (u : ℕ) → IsFalse (u == next.id) → tenant_at c' u ≡ tenant_at c u
  pub same : IsSame c c'
