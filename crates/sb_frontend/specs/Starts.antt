-- Promise: the start of a connection: which tenant a client names, and which of its sessions is opened.
use Rattle.std.specs.Prelude.{◌<◌, ◌+◌, ◌-◌, ◌*◌, ◌^◌, nat_lt, nat_eq, ℕ, Bool, if◌then◌else◌, ◌&&◌, List, [], ◌∷◌, map, filter, codes, Option, Some, None, option_and_then}
use Rattle.std.specs.List.{starts_with}
use Rattle.std.specs.Str.{bytes_eq}
use Rattle.sb_postgres.specs.Bytes.{is_digit}
use Rattle.sb_postgres.specs.Startup.{Pair}
use Rattle.sb_postgres.specs.declared.told.sqlstate.SqlState.{SqlState}
use Rattle.sb_postgres.specs.declared.told.sqlstate.SqlState.TheVariants as state
use Rattle.sb_frontend.specs.declared.start.OpenError.{OpenError}
use Rattle.sb_frontend.specs.declared.start.OpenError.TheVariants as why

-- ---- the tenant

-- the value of the first parameter of this name
abbrev pub parameter_of : List ℕ → List Pair → Option (List ℕ)
parameter_of name [] = None
parameter_of name (p ∷ ps) = if bytes_eq p.0 name then Some p.1 else parameter_of name ps

-- the database's name, if one is named, or else the user's
abbrev pub named_by : Option (List ℕ) → Option (List ℕ) → Option (List ℕ)
named_by None user = user
named_by (Some []) user = user
named_by (Some (b ∷ bs)) user = Some (b ∷ bs)

abbrev pub tenant_name : List Pair → Option (List ℕ)
tenant_name ps = named_by (parameter_of (codes "database") ps) (parameter_of (codes "user") ps)

-- a number with one more digit, if it is below 2 ^ 32
abbrev pub with_digit : ℕ → ℕ → Option ℕ
with_digit before b = if is_digit b && nat_lt (10 * before + (b - 48)) (2 ^ 32) then Some (10 * before + (b - 48)) else None

-- the number that these digits give behind others
abbrev pub number_behind : ℕ → List ℕ → Option ℕ
number_behind before [] = Some before
number_behind before (b ∷ bs) = option_and_then (λ n. number_behind n bs) (with_digit before b)

-- one digit at least
abbrev pub number_of : List ℕ → Option ℕ
number_of [] = None
number_of (b ∷ bs) = number_behind 0 (b ∷ bs)

abbrev pub tenant_of : List Pair → Option ℕ
tenant_of ps = option_and_then number_of (tenant_name ps)

-- ---- options of the protocol, none of which is known

abbrev pub is_option : Pair → Bool
is_option p = starts_with nat_eq p.0 (codes "_pq_.")

abbrev pub options_of : List Pair → List (List ℕ)
options_of ps = map (λ p. p.0) (filter is_option ps)

-- ---- the session

-- how many sessions a tenant has
abbrev pub session_count : ℕ
session_count = 8

-- who opens sessions: whether keys are asked for, which key opens which tenant, and why a session of a tenant isn't opened
pub record Source : Type 1 where
  pub keyed : Bool
  pub admits : ℕ → List ℕ → Type 0
  pub refuses : ℕ → ℕ → OpenError → Type 0

-- the sessions of a tenant before this one are in use
abbrev pub AreInUse : Source → ℕ → ℕ → Type 0
AreInUse source tenant number = (k : ℕ) → k < number → source.refuses tenant k why.InUse

-- one session is refused so, and those before it are in use
abbrev pub RefusesOne : Source → ℕ → OpenError → Type 0
RefusesOne source tenant error = (k : ℕ) × (k < session_count) × AreInUse source tenant k × source.refuses tenant k error

-- no session of a tenant is opened: all are in use, or one is refused otherwise
abbrev pub RefusesAll : Source → ℕ → OpenError → Type 0
RefusesAll source tenant why.InUse = AreInUse source tenant session_count
RefusesAll source tenant error = RefusesOne source tenant error

abbrev pub state_of : OpenError → SqlState
state_of why.NoTenant = state.InvalidCatalogName
state_of why.InUse = state.TooManyConnections
state_of why.TrailFull = state.ConfigurationLimitExceeded
state_of why.NotBegun = state.OutOfMemory

abbrev pub text_of : OpenError → List ℕ
text_of why.NoTenant = codes "the database does not exist"
text_of why.InUse = codes "too many clients already: all sessions of the database are in use"
text_of why.TrailFull = codes "the trail of the database is full"
text_of why.NotBegun = codes "out of memory: the session was not opened"
