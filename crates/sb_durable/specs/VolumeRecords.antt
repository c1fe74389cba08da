-- Promise: what the records of a tenant make of it, where some of them are of a volume that takes the place of the one before.
use Rattle.std.specs.Prelude.{◌≡◌, ◌⊎◌, ℕ, ◌+◌, ◌-◌, ◌==◌, if◌then◌else◌, List, [], ◌∷◌, ◌++◌, map, filter_map, take, Option, Some, None, option_map, unwrap_or, IsTrue, Bool}
use Rattle.std.specs.List.{AllByRecursion}
use Rattle.sb_tenant.specs.declared.bound.Bound.{Bound}
use Rattle.sb_durable.specs.Records.{Entry as Record}
use Rattle.sb_durable.specs.Recording.{played}
use Rattle.sb_durable.specs.Restart as restart
use Rattle.sb_tenant.specs.Limits.{session_count, is_session}
use Rattle.sb_tenant.specs.State.{State, opening}
use Rattle.sb_tenant.specs.Step.{step}
use Rattle.sb_tenant.specs.Tenant.{Tenant, IsLegal}
use Rattle.sb_tenant.specs.Trail.{state_after, state_of}

-- ---- what a record says of its tenant

-- a session makes a step; the next volume begins; a step of it; it takes the place of the volume that stands
pub data Operation : Type 0 where
  steps : ℕ → List ℕ → Operation
  begins : Operation
  drafts : ℕ → List ℕ → Operation
  turns : Operation

-- The eight sessions of a volume that is begun have the numbers behind those of a tenant. Behind these the numbers of its beginning and of its turn follow, which have no line.
abbrev pub record_of_operation : ℕ → Operation → Record
record_of_operation t (steps s line) = record { tenant = t; session = s; line = line }
record_of_operation t (drafts s line) = record { tenant = t; session = session_count + s; line = line }
record_of_operation t begins = record { tenant = t; session = session_count + session_count; line = [] }
record_of_operation t turns = record { tenant = t; session = session_count + session_count + 1; line = [] }

abbrev pub volume_operation_of : Record → Option Operation
volume_operation_of r =
    if is_session (r.session - session_count) then Some (drafts (r.session - session_count) r.line)
    else (if r.session == session_count + session_count then Some begins
    else (if r.session == session_count + session_count + 1 then Some turns else None))

abbrev pub operation_of : Record → Option Operation
operation_of r = if is_session r.session then Some (steps r.session r.line) else volume_operation_of r

abbrev pub own_operation : ℕ → Record → Option Operation
own_operation t r = if t == r.tenant then operation_of r else None

-- those of a tenant, in order
abbrev pub own_operations : ℕ → List Record → List Operation
own_operations t records = filter_map (own_operation t) records

abbrev pub drafted : List (ℕ × List ℕ) → List Operation
drafted script = map (λ e. drafts e.0 e.1) script

-- a whole volume
abbrev pub volume : List (ℕ × List ℕ) → List Operation
volume script = begins ∷ (drafted script ++ turns ∷ [])

-- the tenant has a whole volume among these records; those of others may stand between its own
pub record HasVolume (t : ℕ) (records : List Record) : Type 0 where
  pub front : List Operation
  pub script : List (ℕ × List ℕ)
  pub back : List Operation
  pub split : own_operations t records ≡ front ++ (volume script ++ back)

-- a volume is begun by these records, as far as a crash left it
pub record IsDraft (t : ℕ) (records : List Record) : Type 0 where
  pub script : List (ℕ × List ℕ)
  pub whole : own_operations t records ≡ begins ∷ drafted script

module _ (bound : Bound) (t : ℕ) where
  -- ---- what records make

  abbrev pub after_step : State → ℕ → List ℕ → State
  after_step state s line = (step t bound state s line).0

  -- the tenant as it stands, and the next volume as far as it is made
  abbrev pub after_operation : State × Option State → Operation → State × Option State
  after_operation p (steps s line) = (after_step p.0 s line, p.1)
  after_operation p begins = (p.0, Some opening)
  after_operation p (drafts s line) = (p.0, option_map (λ next. after_step next s line) p.1)
  after_operation p turns = (unwrap_or p.1 p.0, None)

  abbrev pub after_operations : State × Option State → List Operation → State × Option State
  after_operations p [] = p
  after_operations p (d ∷ ds) = after_operations (after_operation p d) ds

  abbrev pub made_of : List Record → State
  made_of records = (after_operations (opening, None) (own_operations t records)).0

  -- ---- laws

  -- where a volume is whole in the newer records, the older ones are of no use
  abbrev pub OlderAreOfNoUse : Type 0
  OlderAreOfNoUse = (older newer : List Record) → HasVolume t newer → made_of (older ++ newer) ≡ made_of newer

  -- a volume that is begun and not turned to makes nothing
  abbrev pub DraftsAreNothing : Type 0
  DraftsAreNothing = (records more : List Record) → IsDraft t more → made_of (records ++ more) ≡ made_of records

  -- behind a whole volume the tenant is what its script makes
  abbrev pub VolumesStand : Type 0
  VolumesStand =
      (records more : List Record) (script : List (ℕ × List ℕ)) → own_operations t more ≡ volume script → made_of (records ++ more) ≡ state_after t bound opening script

  -- records of sessions alone make what they make without volumes
  abbrev pub SessionsAlone : Type 0
  SessionsAlone = (records : List Record) → AllByRecursion (λ r. IsTrue (is_session r.session)) records → made_of records ≡ restart.made_of bound t records

-- of these records the tenant needs none
abbrev pub IsOfNoUse : ℕ → List Record → List Record → Type 0
IsOfNoUse t older newer = (own_operations t older ≡ []) ⊎ HasVolume t newer

-- segments with records that no tenant needs can go
abbrev pub OldSegmentsCanGo : Type 0
OldSegmentsCanGo =
    (bound : Bound) (hosts : ℕ → Bool) (older newer : List Record) → ((t : ℕ) → IsTrue (hosts t) → IsOfNoUse t older newer)
    → (t : ℕ) → IsTrue (hosts t) → made_of bound t (older ++ newer) ≡ made_of bound t newer

-- ---- what a renewal is recorded as

-- the steps of the opening of a tenant's volume
abbrev pub opening_steps : Tenant → List (ℕ × List ℕ)
opening_steps own = map played (take own.volume.opening own.trail)

-- A renewed tenant's opening is recorded as a whole volume.
abbrev pub renewal_records : Tenant → List Record
renewal_records own = map (record_of_operation own.id) (volume (opening_steps own))

-- Whatever stands before them, they make the very tenant that took the place of the old one.
abbrev pub RenewalsStand : Type 0
RenewalsStand =
    (own : Tenant) → IsLegal own → (records : List Record)
    → made_of own.bound own.id (records ++ renewal_records own) ≡ state_of own.id own.bound (take own.volume.opening own.trail)

-- With them among its records, a tenant needs none before them.
abbrev pub RenewalsAreVolumes : Type 0
RenewalsAreVolumes = (own : Tenant) → IsLegal own → (newer : List Record) → HasVolume own.id (renewal_records own ++ newer)
