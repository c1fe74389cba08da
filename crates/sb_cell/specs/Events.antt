-- Promise: what one event may be answered, and a tenant's own events.
use Rattle.std.specs.Prelude.{true, false, ◌≡◌, ℕ, Bool, ◌&&◌, ◌==◌, if◌then◌else◌, List, [], ◌∷◌, zip, filter_map, Option, Some, None, Result, Ok, Err, IsFalse}
use Rattle.sb_tenant.specs.declared.bound.Bound.{Bound}
use Rattle.sb_tenant.specs.declared.reply.Answer.{Answer}
use Rattle.sb_tenant.specs.declared.reply.Entry.{Entry}
use Rattle.sb_tenant.specs.Limits.{is_session}
use Rattle.sb_tenant.specs.Trail.{Steps, IsNotBegun}
use Rattle.sb_cell.specs.declared.Event.{Event}
use Rattle.sb_cell.specs.declared.StepError.{StepError}
use Rattle.sb_cell.specs.declared.StepError.TheVariants.{NoTenant, NoSession, NotBegun}

-- ---- a tenant's own events

-- an event that names the tenant and one of its sessions
abbrev pub is_own : ℕ → Event → Bool
is_own t e = (e.tenant == t) && is_session e.session

-- its session and line, if the event is one of the tenant's
abbrev pub own_event : ℕ → Event → Option (ℕ × List ℕ)
own_event t e = if is_own t e then Some (e.session, e.line) else None

-- the sessions and lines of the tenant's own events, in order
abbrev pub own_events : ℕ → List Event → List (ℕ × List ℕ)
own_events t events = filter_map (own_event t) events

-- the answer, if the event is one of the tenant's
abbrev pub own_answer : ℕ → Event × Result Answer StepError → Option (Result Answer StepError)
own_answer t p = if is_own t p.0 then Some p.1 else None

-- the answers to the tenant's own events, in order
abbrev pub own_answers : ℕ → List Event → List (Result Answer StepError) → List (Result Answer StepError)
own_answers t events answers = filter_map (own_answer t) (zip events answers)

module _ (bound : Bound) where
  -- ---- one event of a tenant

  -- the trail has one entry more, with the answer's number and reply; or it is full, or the step isn't begun, and it stays
  abbrev pub IsTurn : ℕ → List Entry → ℕ × List ℕ → Result Answer StepError → List Entry → Type 0
  IsTurn t before e (Ok a) after = Steps t bound before e.0 e.1 a after
  IsTurn t before e (Err NotBegun) after = IsNotBegun t bound before e.0 e.1 after
  IsTurn t before e (Err NoTenant) after = ⊥
  IsTurn t before e (Err NoSession) after = ⊥

  -- each answer in turn, and the trail that goes on from one to the next
  abbrev pub AreTurns : ℕ → List Entry → List (ℕ × List ℕ) → List (Result Answer StepError) → List Entry → Type 0
  AreTurns t before [] [] after = after ≡ before
  AreTurns t before (e ∷ es) (a ∷ rest) after = (mid : List Entry) × IsTurn t before e a mid × AreTurns t mid es rest after
  AreTurns t before [] (a ∷ rest) after = ⊥
  AreTurns t before (e ∷ es) [] after = ⊥

  -- ---- one event of a cell

  -- by whether the cell hosts the tenant and the session is one: the event is refused and no trail changes, or it is a turn of that tenant and no other trail changes
  abbrev pub IsEvent : Bool → Bool → (ℕ → List Entry) → Event → Result Answer StepError → (ℕ → List Entry) → Type 0
  IsEvent false is_one before e given after = (given ≡ Err NoTenant) × (after ≡ before)
  IsEvent true false before e given after = (given ≡ Err NoSession) × (after ≡ before)
  IsEvent true true before e given after =
      IsTurn e.tenant (before e.tenant) (e.session, e.line) given (after e.tenant) × ((t : ℕ) → IsFalse (t == e.tenant) → after t ≡ before t)

  -- the events in order, each with its answer
  abbrev pub AreEvents : (ℕ → Bool) → (ℕ → List Entry) → List Event → List (Result Answer StepError) → (ℕ → List Entry) → Type 0
  AreEvents hosts before [] [] after = after ≡ before
  AreEvents hosts before (e ∷ es) (a ∷ rest) after =
      (mid : ℕ → List Entry) × IsEvent (hosts e.tenant) (is_session e.session) before e a mid × AreEvents hosts mid es rest after
  AreEvents hosts before [] (a ∷ rest) after = ⊥
  AreEvents hosts before (e ∷ es) [] after = ⊥
