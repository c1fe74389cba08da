-- Promise: what a page shows of a tenant itself.
use Rattle.std.specs.Prelude.{◌≡◌, ◌<◌, ℕ, List, length, if◌then◌else◌, slice_index_or, Option, Some, IfSome, IfOk}
use Rattle.sb_status.specs.declared.view.SessionState.{SessionState}
use Rattle.sb_status.specs.declared.view.SessionState.TheVariants.{Active, Closed, Idle}
use Rattle.sb_status.specs.declared.view.SessionView.{SessionView}
use Rattle.sb_status.specs.declared.view.TenantView.{TenantView}
use Rattle.sb_tenant.specs.Limits.{session_count}
use Rattle.sb_tenant.specs.State.{Session, has_transaction, is_open, session_at}
use Rattle.sb_tenant.specs.Tenant.{Tenant, state}
use Rattle.sb_status.specs.TenantCounts.{AreNumbersOf}
use Rattle.sb_status.specs.RuleLines.{AreRulesOf}
use Rattle.sb_status.specs.declared.tenant_copy.Viewing.{Viewing}

-- how a session stands
abbrev pub shown_as : Session → SessionState
shown_as session = if has_transaction session then Active else (if is_open session then Idle else Closed)

-- the sessions below a number, by their numbers
pub record AreSessionsOf (own : Tenant) (n : ℕ) (views : List SessionView) : Type 0 where
  pub all : length views ≡ n
  pub each : (s : ℕ) (d : SessionView) → s < n → (slice_index_or views s d).state ≡ shown_as (session_at (state own) s)

-- where the host's first tenant has this number
pub record IsViewOf (first : ℕ) (own : Tenant) (view : TenantView) : Type 0 where
  pub numbers : AreNumbersOf first own view.numbers
  pub sessions : AreSessionsOf own session_count view.sessions.items
  pub rules : AreRulesOf (state own).catalog.rules view.rules.items

-- it was copied
abbrev pub IsCopyOf : ℕ → Tenant → Option TenantView → Type 0
IsCopyOf first own found = (view : TenantView) × (found ≡ Some view) × IsViewOf first own view

-- a tenant that is read is copied, unless memory runs out
abbrev pub Copies : Viewing → Tenant → Viewing → Type 0
Copies old own new = IfOk new.view (IsCopyOf old.first_tenant own)

-- a tenant of this number was so
abbrev pub IsViewAt : ℕ → ℕ → TenantView → Type 0
IsViewAt first t view = (own : Tenant) × (own.id ≡ t) × IsViewOf first own view

-- what is found is that
abbrev pub IsFoundView : ℕ → ℕ → Option TenantView → Type 0
IsFoundView first t found = IfSome found (IsViewAt first t)

-- how old last lines are may change, and nothing else
pub record OnlyAges (old new : List SessionView) : Type 0 where
  pub all : length new ≡ length old
  pub states : (s : ℕ) (d : SessionView) → (slice_index_or new s d).state ≡ (slice_index_or old s d).state
