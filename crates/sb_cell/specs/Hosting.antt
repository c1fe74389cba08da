-- Machine: what holds of a cell at any time.
use Rattle.std.specs.Prelude.{◌≡◌, ℕ, ◌+◌, ◌*◌, ◌<◌, ◌≤◌, ◌&&◌, nat_lt, List, [], length, sum_by, slice_get, Some, IsFalse}
use Rattle.sb_tenant.specs.declared.bound.Bound.{Bound}
use Rattle.sb_value.specs.declared.id.Who.{Who}
use Rattle.sb_rawlog.specs.Records.{Record}
use Rattle.sb_rawlog.specs.Sessions.{records_by}
use Rattle.sb_index.specs.TableSets.{TableSets}
use Rattle.sb_catalog.specs.Definitions.{AreIndexed}
use Rattle.sb_tenant.specs.Limits.{is_session}
use Rattle.sb_tenant.specs.Tenant.{Tenant, IsLegal, IsNew}
use Rattle.sb_tenant.specs.Lending.{InStep, HoldNothing}
use Rattle.sb_cell.specs.Tenants.{Cell, hosts}

-- the tenant has its place's number, and the log and the index hold what it has
pub record IsAt (c : Cell) (place : ℕ) (t : Tenant) : Type 0 where
  pub id : t.id ≡ c.first + c.stride * place
  pub bound : t.bound ≡ c.bound
  pub legal : IsLegal t
  pub in_step : InStep t c.records c.clock c.index

-- the entries of all trails
abbrev pub entry_count : List Tenant → ℕ
entry_count tenants = sum_by (λ t. length t.trail) tenants

-- each tenant is at its place; nobody else has a record or a rule
pub record IsHosted (c : Cell) : Type 0 where
  pub first : c.first < c.stride
  pub few : length c.tenants ≤ 256
  pub tenants : (place : ℕ) (t : Tenant) → slice_get c.tenants place ≡ Some t → IsAt c place t
  pub records : (who : Who) → IsFalse (hosts c who.tenant && is_session who.session) → records_by who c.records ≡ []
  pub rules : (t : ℕ) → IsFalse (hosts c t) → AreIndexed c.index t []

-- the places below n are those of the numbers first + stride * place below the limit
abbrev pub ArePlacesBelow : ℕ → ℕ → ℕ → ℕ → Type 0
ArePlacesBelow first stride limit n = (place : ℕ) → nat_lt place n ≡ nat_lt (first + stride * place) limit

-- a new tenant of a number, which is in step with what holds nothing of it
abbrev pub IsFresh : ℕ → Bound → Tenant → Type 0
IsFresh id bound t = IsNew id bound t × ((records : List Record) (clock : ℕ) (index : List (List TableSets)) → HoldNothing t.id records index → InStep t records clock index)

-- new tenants at their places
abbrev pub AreFresh : ℕ → ℕ → Bound → List Tenant → Type 0
AreFresh first stride bound tenants = (place : ℕ) (t : Tenant) → slice_get tenants place ≡ Some t → IsFresh (first + stride * place) bound t
