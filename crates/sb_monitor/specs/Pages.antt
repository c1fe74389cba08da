-- Promise: what the status port shows of a host at each route, and whose it is.
use Rattle.std.specs.Prelude.{◌≡◌, ◌⊎◌, ◌+◌, ◌%◌, ◌<◌, ◌≤◌, ℕ, Bool, false, true, List, [], codes}
use Rattle.sb_tenant.specs.declared.bound.Bound.{Bound}
use Rattle.sb_connection.specs.declared.first_line.SessionName.{SessionName}
use Rattle.sb_status.specs.Pages.{IsPage}
use Rattle.sb_status.specs.TenantPages.{IsPageOf}
use Rattle.sb_status.specs.TenantViews.{IsViewAt}
use Rattle.sb_status.specs.declared.response.ContentType.{ContentType}
use Rattle.sb_status.specs.declared.response.ContentType.TheVariants as kind
use Rattle.sb_status.specs.declared.response.Status.{Status}
use Rattle.sb_status.specs.declared.response.Status.TheVariants as status
use Rattle.sb_status.specs.declared.route.Ended.{Ended}
use Rattle.sb_status.specs.declared.route.Route.{Route}
use Rattle.sb_status.specs.declared.route.Route.TheVariants as route
use Rattle.sb_status.specs.declared.text.Escaping.TheVariants.{Html, Label}
use Rattle.sb_status.specs.declared.view.TenantView.{TenantView}
use Rattle.sb_tenant.specs.Limits.{session_count}
use Rattle.sb_tenant.specs.State.{is_open, session_at}
use Rattle.sb_tenant.specs.Tenant.{Tenant, state}
use Rattle.sb_backup.specs.HostDumps.{IsScriptOf}
use Rattle.sb_monitor.specs.declared.target.Target.{Target}
use Rattle.sb_monitor.specs.declared.target.Target.TheVariants as target
use Rattle.sb_monitor.specs.declared.http_outcome.HttpRefusal.{HttpRefusal}
use Rattle.sb_monitor.specs.declared.http_outcome.HttpRefusal.TheVariants.{NoPage, NoScript, NoSession, NoStop, NoTenant, TenantBusy, WorkerBusy}
use Rattle.sb_monitor.specs.declared.http_outcome.Outcome.{Outcome}
use Rattle.sb_monitor.specs.declared.http_outcome.Outcome.TheVariants.{NotReady, Refused, Shown}

-- of so many tenants from the first number on, one has this number
abbrev pub IsHosted : ℕ → ℕ → ℕ → Type 0
IsHosted first tenants n = (first ≤ n) × (n < first + tenants)

-- ---- what is shown

-- a page of what a tenant of this number was
abbrev pub IsPageAt : ℕ → ℕ → List ℕ → Type 0
IsPageAt first n body = (place : ℕ) × (first + place ≡ n) × (view : TenantView) × IsViewAt first place view × IsPageOf view body

-- the one of a tenant of this number
abbrev pub IsScriptAt : ℕ → Bound → ℕ → List ℕ → Type 0
IsScriptAt first bound n body = (own : Tenant) × (first + own.id ≡ n) × IsScriptOf bound own body

-- the worker of its tenant's cell was told that this session is to end
abbrev pub IsEnding : ℕ → ℕ → (ℕ → SessionName → Type 0) → Ended → Type 0
IsEnding first cells told e = (place : ℕ) × (first + place ≡ e.tenant) × told (place % cells) (record { tenant = e.tenant; session = e.session })

-- the worker of a tenant's cell was told that the tenant of this number is to be renewed
abbrev pub IsRenewing : ℕ → ℕ → (ℕ → ℕ → Type 0) → ℕ → Type 0
IsRenewing first cells asked n = (place : ℕ) × (first + place ≡ n) × asked (place % cells) place

-- ---- why nothing is shown

-- a tenant has no such session, or it wasn't open
abbrev pub LacksSession : ℕ → ℕ → Type 0
LacksSession t session = (session_count ≤ session) ⊎ ((own : Tenant) × (own.id ≡ t) × (is_open (session_at (state own) session) ≡ false))

-- so it is of the one of this number
abbrev pub IsNoSession : ℕ → ℕ → ℕ → Type 0
IsNoSession first n session = (place : ℕ) × (first + place ≡ n) × LacksSession place session

-- the tenant isn't hosted; or it is, and that is why
abbrev pub IsUnshown : ℕ → ℕ → ℕ → (HttpRefusal → Type 0) → HttpRefusal → Type 0
IsUnshown first tenants n reason why = ((why ≡ NoTenant) × (IsHosted first tenants n → ⊥)) ⊎ (IsHosted first tenants n × reason why)

-- ---- what a request comes to

-- it is shown with this status as a body of this type; or that is why it isn't
abbrev pub IsOutcome : Status → ContentType → (List ℕ → Type 0) → (HttpRefusal → Type 0) → Outcome → Type 0
IsOutcome status kind body why (Shown s) = (s.status ≡ status) × (s.kind ≡ kind) × body s.body.items
IsOutcome status kind body why (Refused refusal) = why refusal
IsOutcome status kind body why NotReady = ⊥

-- the page of a tenant
abbrev pub IsPageOutcome : ℕ → ℕ → ℕ → Outcome → Type 0
IsPageOutcome first tenants n = IsOutcome status.Found kind.Page (IsPageAt first n) (IsUnshown first tenants n (λ why. why ≡ TenantBusy))

-- its script
abbrev pub IsScriptOutcome : ℕ → ℕ → Bound → ℕ → Outcome → Type 0
IsScriptOutcome first tenants bound n =
    IsOutcome status.Found kind.Text (IsScriptAt first bound n) (IsUnshown first tenants n (λ why. (why ≡ TenantBusy) ⊎ (why ≡ NoScript)))

-- the end of a session
abbrev pub IsEndOutcome : ℕ → ℕ → ℕ → (ℕ → SessionName → Type 0) → Ended → Outcome → Type 0
IsEndOutcome first tenants cells told e =
    IsOutcome status.Accepted kind.Text (λ body. (body ≡ codes "told\n") × IsEnding first cells told e)
    (IsUnshown first tenants e.tenant (λ why. ((why ≡ NoSession) × IsNoSession first e.tenant e.session) ⊎ (why ≡ WorkerBusy)))

-- the renewal of a tenant
abbrev pub IsRenewalOutcome : ℕ → ℕ → ℕ → (ℕ → ℕ → Type 0) → ℕ → Outcome → Type 0
IsRenewalOutcome first tenants cells asked n =
    IsOutcome status.Accepted kind.Text (λ body. (body ≡ codes "told\n") × IsRenewing first cells asked n)
    (IsUnshown first tenants n (λ why. why ≡ WorkerBusy))

-- a page of the host itself
abbrev pub IsHostOutcome : Outcome → Type 0
IsHostOutcome = IsOutcome status.Found kind.Page (IsPage Html) (λ _. ⊥)

-- its samples
abbrev pub AreSamples : Outcome → Type 0
AreSamples = IsOutcome status.Found kind.Samples (IsPage Label) (λ _. ⊥)

-- each route has its own
abbrev pub Shows : ℕ → ℕ → ℕ → Bound → (ℕ → SessionName → Type 0) → (ℕ → ℕ → Type 0) → Route → Outcome → Type 0
Shows first tenants cells bound told asked route.Host outcome = IsHostOutcome outcome
Shows first tenants cells bound told asked route.Metrics outcome = AreSamples outcome
Shows first tenants cells bound told asked (route.Tenant n) outcome = IsPageOutcome first tenants n outcome
Shows first tenants cells bound told asked (route.Dump n) outcome = IsScriptOutcome first tenants bound n outcome
Shows first tenants cells bound told asked (route.End e) outcome = IsEndOutcome first tenants cells told e outcome
Shows first tenants cells bound told asked (route.Renew n) outcome = IsRenewalOutcome first tenants cells asked n outcome
Shows first tenants cells bound told asked route.Unknown outcome = outcome ≡ Refused NoPage

-- the server was told to stop, or it can't be told
abbrev pub IsStopOutcome : Type 0 → Outcome → Type 0
IsStopOutcome stopped = IsOutcome status.Accepted kind.Text (λ body. (body ≡ codes "told\n") × stopped) (λ why. why ≡ NoStop)

-- clients are let in
abbrev pub IsReadyOutcome : Outcome → Type 0
IsReadyOutcome = IsOutcome status.Found kind.Text (λ body. body ≡ codes "ready\n") (λ _. ⊥)

-- this is replied where the server lets clients in, and that it doesn't where it doesn't
abbrev pub IsInTime : (Bool → Type 0) → (Outcome → Type 0) → Outcome → Type 0
IsInTime lets_in replied outcome = (lets_in true × replied outcome) ⊎ (lets_in false × (outcome ≡ NotReady))

-- pages wait until clients are let in; a stop is told at any time
abbrev pub Replies : ℕ → ℕ → ℕ → Bound → (ℕ → SessionName → Type 0) → (ℕ → ℕ → Type 0) → Type 0 → (Bool → Type 0) → Target → Outcome → Type 0
Replies first tenants cells bound told asked stopped lets_in target.Stop outcome = IsStopOutcome stopped outcome
Replies first tenants cells bound told asked stopped lets_in target.Ready outcome = IsInTime lets_in IsReadyOutcome outcome
Replies first tenants cells bound told asked stopped lets_in (target.Page route) outcome =
    IsInTime lets_in (Shows first tenants cells bound told asked route) outcome
