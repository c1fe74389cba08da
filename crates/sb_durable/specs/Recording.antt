-- Promise: what the steps of trails are recorded as, and what is recorded of them.
use Rattle.std.specs.Prelude.{◌≡◌, ◌⊎◌, ℕ, ◌+◌, ◌^◌, ◌<◌, ◌≤◌, Bool, true, false, List, [], ◌∷◌, ◌++◌, Some, length, map, take, drop, slice_get, slice_set, codes, cond, Contains}
use Rattle.sb_tenant.specs.declared.bound.Bound.{Bound}
use Rattle.sb_durable.specs.Records.{Entry as Record}
use Rattle.sb_durable.specs.declared.recorded_reach.RecordedReach.{RecordedReach}
use Rattle.sb_tenant.specs.Limits.{session_count}
use Rattle.sb_tenant.specs.Volumes.{HasFollowing, first_volume, following}
use Rattle.sb_tenant.specs.declared.reply.Entry.{Entry}
use Rattle.sb_tenant.specs.State.{opening}
use Rattle.sb_tenant.specs.Trail.{is_no_memory, IsTrail, state_of, state_after}
use Rattle.sb_tenant.specs.Tenant.{Tenant, IsLegal}

-- ---- one step

-- its line; an abort is recorded as the line that does the same
abbrev pub line_of : Entry → List ℕ
line_of e = cond (is_no_memory e.reply) (codes "rollback") e.line

abbrev pub record_of : ℕ → Entry → Record
record_of tenant e = record { tenant = tenant; session = e.session; line = line_of e }

-- what is played of it
abbrev pub played : Entry → ℕ × List ℕ
played e = (e.session, line_of e)

-- ---- one renewal

-- no session has this number
abbrev pub renewal_of : ℕ → Record
renewal_of tenant = record { tenant = tenant; session = session_count; line = codes "renew" }

abbrev pub renewals_of : ℕ → Bool → List Record
renewals_of tenant false = []
renewals_of tenant true = renewal_of tenant ∷ []

module _ (tenant : ℕ) (bound : Bound) where
  -- The lines that a legal trail is recorded as make its state again.
  abbrev pub RecordsMakeTheState : Type 0
  RecordsMakeTheState =
      (trail : List Entry) → IsTrail tenant bound trail → state_after tenant bound opening (map played trail) ≡ state_of tenant bound trail

-- ---- how far a tenant is recorded

-- before its first step
abbrev pub first_reach : RecordedReach
first_reach = record { volume = first_volume; entries = 0 }

-- Its volume ends there. The next one is recorded as far as its opening goes, which no session made.
abbrev pub renewed : RecordedReach → ℕ → RecordedReach
renewed reach opening = record { volume = following reach.volume reach.entries opening; entries = opening }

-- there is one behind it as long as its counts are numbers of so many bits
abbrev pub HasRenewed : RecordedReach → ℕ → Type 0
HasRenewed reach opening = (opening < 2 ^ 32) × HasFollowing reach.volume reach.entries

-- Recording goes on at the same place, or behind a renewal. Then the volume is the one that follows, and counts as many entries before it as are recorded: so all of them are, and there was no other renewal.
abbrev pub GoesOn : RecordedReach → RecordedReach → Bool → Type 0
GoesOn reach at false = at ≡ reach
GoesOn reach at true = at ≡ renewed reach at.volume.opening

-- ---- what is recorded

-- of a tenant as it stood then, so many entries of its volume behind so many others; a renewal stands before them or doesn't
pub record Part : Type 0 where
  pub tenant : ℕ
  pub own : Tenant
  pub is_renewed : Bool
  pub from : ℕ
  pub count : ℕ

abbrev pub entries_of : Part → List Entry
entries_of part = take part.count (drop part.from part.own.trail)

abbrev pub records_of : List Part → List Record
records_of [] = []
records_of (part ∷ parts) = renewals_of part.tenant part.is_renewed ++ map (record_of part.tenant) (entries_of part) ++ records_of parts

-- its volume, up to such a place
abbrev pub reach_of : Part → ℕ → RecordedReach
reach_of part entries = record { volume = part.own.volume; entries = entries }

-- it is of the tenant of its number, which is recorded so far, begins where recording goes on, and lies within a legal trail
abbrev pub IsNextPart : RecordedReach → Part → Type 0
IsNextPart reach part =
    (part.own.id ≡ part.tenant) × GoesOn reach (reach_of part part.from) part.is_renewed × (part.from + part.count ≤ length part.own.trail) × IsLegal part.own

-- how far each tenant is recorded, before these parts and after them
abbrev pub Counts : List RecordedReach → List Part → List RecordedReach → Type 0
Counts reaches [] new = new ≡ reaches
Counts reaches (part ∷ parts) new =
    ((reach : RecordedReach) × (slice_get reaches part.tenant ≡ Some reach) × IsNextPart reach part)
    × Counts (slice_set reaches part.tenant (reach_of part (part.from + part.count))) parts new

-- each of them is this tenant's
abbrev pub AreOf : ℕ → List Part → Type 0
AreOf tenant [] = Unit {0}
AreOf tenant (part ∷ parts) = (part.tenant ≡ tenant) × AreOf tenant parts

-- or one of these tenants'
abbrev pub AreAmong : List ℕ → List Part → Type 0
AreAmong tenants [] = Unit {0}
AreAmong tenants (part ∷ parts) = Contains tenants part.tenant × AreAmong tenants parts

-- some part goes to the end of this tenant's trail
abbrev pub Reaches : List Part → ℕ → Type 0
Reaches [] tenant = ⊥
Reaches (part ∷ parts) tenant = ((part.tenant ≡ tenant) × (part.from + part.count ≡ length part.own.trail)) ⊎ Reaches parts tenant
