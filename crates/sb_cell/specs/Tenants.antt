-- Promise: a cell as its users see it: its tenants with their trails, the log and the index that they share.
use Rattle.std.specs.Prelude.{true, false, ◌≡◌, ℕ, ◌/◌, ◌%◌, Bool, ◌&&◌, ◌==◌, nat_lt, if◌then◌else◌, List, [], length, slice_get, Option, Some, None, Result, Err, IsFalse, IsTrue}
use Rattle.sb_tenant.specs.declared.bound.Bound.{Bound}
use Rattle.sb_rawlog.specs.Records.{Record}
use Rattle.sb_index.specs.TableSets.{TableSets}
use Rattle.sb_tenant.specs.State.{State}
use Rattle.sb_tenant.specs.declared.reply.Answer.{Answer}
use Rattle.sb_tenant.specs.declared.reply.Entry.{Entry}
use Rattle.sb_tenant.specs.Limits.{is_session}
use Rattle.sb_tenant.specs.Tenant.{Tenant}
use Rattle.sb_tenant.specs.Trail.{IsTrail, state_of}
use Rattle.sb_cell.specs.declared.StepError.{StepError}
use Rattle.sb_cell.specs.declared.StepError.TheVariants.{NoTenant, NoSession}
use Rattle.sb_cell.specs.declared.Event.{Event}
use Rattle.sb_cell.specs.Events.{IsTurn}
use Rattle.sb_cell.specs.Headline.{Run}

-- the tenants are those of the numbers first, first + stride, first + 2 * stride, ..; each step has this bound
pub record Cell : Type 0 where
  pub first : ℕ
  pub stride : ℕ
  pub bound : Bound
  pub tenants : List Tenant
  pub records : List Record
  pub clock : ℕ
  pub index : List (List TableSets)

-- which tenants it hosts
abbrev pub hosts : Cell → ℕ → Bool
hosts c t = (t % c.stride == c.first) && nat_lt (t / c.stride) (length c.tenants)

-- the tenant of a number
abbrev pub tenant_at : Cell → ℕ → Option Tenant
tenant_at c t = if t % c.stride == c.first then slice_get c.tenants (t / c.stride) else None

-- its trail
abbrev pub trail_of : Option Tenant → List Entry
trail_of None = []
trail_of (Some t) = t.trail

abbrev pub trails : Cell → ℕ → List Entry
trails c t = trail_of (tenant_at c t)

-- the state that its trail gives
abbrev pub states : Cell → ℕ → State
states c t = state_of t c.bound (trails c t)

-- the trail of each tenant that it hosts is legal
abbrev pub HasLegalTrails : Cell → Type 0
HasLegalTrails c = (t : ℕ) → IsTrue (hosts c t) → IsTrail t c.bound (trails c t)

-- it hosts the tenant, whose trail this is
abbrev pub HasTrail : Cell → ℕ → List Entry → Type 0
HasTrail c t trail = (hosts c t ≡ true) × (trail ≡ trails c t)

-- it hosts the tenant under the tenant's own number
abbrev pub IsTenantOf : Cell → Tenant → Type 0
IsTenantOf c t = (hosts c t.id ≡ true) × (t.bound ≡ c.bound) × (tenant_at c t.id ≡ Some t)

-- it hosts the numbers below a limit that are first + stride * place; each of their trails is empty
pub record IsNew (first stride limit : ℕ) (bound : Bound) (c : Cell) : Type 0 where
  pub first_is : c.first ≡ first
  pub stride_is : c.stride ≡ stride
  pub hosted : (t : ℕ) → hosts c t ≡ ((t % stride == first) && nat_lt t limit)
  pub at_most : c.bound ≡ bound
  pub trails : (t : ℕ) → trails c t ≡ []
  pub records : c.records ≡ []

-- it hosts the same tenants, with the same bound
abbrev pub IsSame : Cell → Cell → Type 0
IsSame old new = (new.first ≡ old.first) × (new.stride ≡ old.stride) × (new.bound ≡ old.bound) × (length new.tenants ≡ length old.tenants)

-- by whether the cell hosts the tenant and the session is one: the line is refused, and nothing changes; or it is a turn of that tenant, and every other is as it was
abbrev pub AnswersBy : Bool → Bool → Cell → ℕ → ℕ → List ℕ → Result Answer StepError → Cell → Type 0
AnswersBy false is_one old t s line given new = (given ≡ Err NoTenant) × (new ≡ old)
AnswersBy true false old t s line given new = (given ≡ Err NoSession) × (new ≡ old)
AnswersBy true true old t s line given new =
    IsTurn old.bound t (trails old t) (s, line) given (trails new t) × ((u : ℕ) → IsFalse (u == t) → tenant_at new u ≡ tenant_at old u) × IsSame old new

-- a line of a tenant's session is answered as an event
abbrev pub AnswersEvent : Cell → ℕ → ℕ → List ℕ → Result Answer StepError → Cell → Type 0
AnswersEvent old t s line given new = AnswersBy (hosts old t) (is_session s) old t s line given new

-- the run that events, their answers and the cell after them are
abbrev pub run_of : Cell → List Event → List (Result Answer StepError) → Cell → Run
run_of old events given new = record { hosts = hosts old; before = trails old; events = events; given = given; after = trails new }
