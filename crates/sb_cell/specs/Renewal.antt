-- Promise: the renewal of a tenant. One that was made alike takes its place, and its trail is the next volume of the tenant's life.
use Rattle.std.specs.Prelude.{◌≡◌, ◌⊎◌, ℕ, true, ◌==◌, length, Some, IsTrue, IsFalse}
use Rattle.sb_tenant.specs.Alike.{AreAlikeWithSessions}
use Rattle.sb_tenant.specs.Limits.{is_session}
use Rattle.sb_tenant.specs.State.{State, is_open, session_at}
use Rattle.sb_tenant.specs.Tenant.{Tenant, state}
use Rattle.sb_tenant.specs.Volumes.{AreClosed, HasFollowing, following}
use Rattle.sb_cell.specs.declared.renewal.RenewalError.{RenewalError}
use Rattle.sb_cell.specs.declared.renewal.RenewalError.TheVariants.{NoTenant, OtherBound, Open, NotAlike, TooMany}
use Rattle.sb_cell.specs.Tenants.{Cell, IsSame, hosts, states, tenant_at}

-- what the fresh tenant is behind the old one: its trail is the volume that follows the old one's
pub record IsNextVolume (old fresh next : Tenant) : Type 0 where
  pub id : next.id ≡ old.id
  pub bound : next.bound ≡ old.bound
  pub trail : next.trail ≡ fresh.trail
  pub volume : next.volume ≡ following old.volume (length old.trail) (length fresh.trail)

-- no session is open, the states before and behind it are alike, and every other tenant is as it was
pub record Renews (c : Cell) (old fresh : Tenant) (c' : Cell) : Type 0 where
  pub hosted : hosts c fresh.id ≡ true
  pub before : tenant_at c fresh.id ≡ Some old
  pub behind : (next : Tenant) × (tenant_at c' fresh.id ≡ Some next) × IsNextVolume old fresh next
  pub closed : AreClosed (states c fresh.id)
  pub alike : AreAlikeWithSessions (states c fresh.id) (states c' fresh.id)
  pub others : (u : ℕ) → IsFalse (u == fresh.id) → tenant_at c' u ≡ tenant_at c u
  pub same : IsSame c c'

-- a session of the state is open
abbrev pub IsOpenSomewhere : State → Type 0
IsOpenSomewhere state = (s : ℕ) × IsTrue (is_session s) × IsTrue (is_open (session_at state s))

-- its number is hosted, and its bound is the cell's
abbrev pub IsOfCell : Cell → Tenant → Type 0
IsOfCell c fresh = (hosts c fresh.id ≡ true) × (fresh.bound ≡ c.bound)

-- no session is open, neither of the tenant of that number nor of the fresh one
abbrev pub AreBothClosed : Cell → Tenant → Type 0
AreBothClosed c fresh = AreClosed (states c fresh.id) × AreClosed (state fresh)

-- why there is no renewal, in the order in which it is looked at
abbrev pub IsNotRenewed : Cell → Tenant → RenewalError → Type 0
IsNotRenewed c fresh NoTenant = IsFalse (hosts c fresh.id)
IsNotRenewed c fresh OtherBound = (hosts c fresh.id ≡ true) × (fresh.bound ≡ c.bound → ⊥)
IsNotRenewed c fresh Open = IsOfCell c fresh × (IsOpenSomewhere (states c fresh.id) ⊎ IsOpenSomewhere (state fresh))
IsNotRenewed c fresh NotAlike = IsOfCell c fresh × AreBothClosed c fresh
IsNotRenewed c fresh TooMany =
    IsOfCell c fresh × AreBothClosed c fresh × ((old : Tenant) → tenant_at c fresh.id ≡ Some old → HasFollowing old.volume (length old.trail) → ⊥)
