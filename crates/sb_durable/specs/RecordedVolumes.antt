-- Promise: what is recorded of the volumes of a tenant, where a renewal is recorded as its whole opening.
use Rattle.std.specs.Prelude.{◌≡◌, ◌⊎◌, ℕ, ◌+◌, ◌<◌, ◌≤◌, ◌==◌, if◌then◌else◌, nat_lt, Bool, true, false, List, [], ◌∷◌, ◌++◌, Some, length, take, drop, slice_get, slice_set}
use Rattle.sb_tenant.specs.declared.bound.Bound.{Bound}
use Rattle.sb_durable.specs.Records.{Entry as Record}
use Rattle.sb_durable.specs.declared.recorded_reach.RecordedReach.{RecordedReach}
use Rattle.sb_durable.specs.Recording.{Part, AreOf, first_reach, reach_of}
use Rattle.sb_durable.specs.RecordedLives.{AreMoments, IsLife, steps_in}
use Rattle.sb_durable.specs.VolumeLives.{AreVolumes}
use Rattle.sb_durable.specs.VolumeRecords.{made_of, renewal_records}
use Rattle.sb_tenant.specs.Tenant.{Tenant, IsLegal}
use Rattle.sb_tenant.specs.Trail.{state_of}

-- ---- a volume

-- Of a tenant's first volume there is what its sessions did; of a further one its opening as a whole volume, and what they did behind it.
abbrev pub records_of_volume : Tenant → List Record
records_of_volume own = if own.volume.number == 0 then steps_in own.id own else renewal_records own ++ steps_in own.id own

-- How many of them are those of its first entries. One stands before the opening, and the turn behind it.
abbrev pub count_of : Tenant → ℕ → ℕ
count_of own entries = if own.volume.number == 0 then entries else (if nat_lt entries own.volume.opening then entries + 1 else entries + 2)

-- ---- parts of volumes

-- how many records of its volume stand before a part
abbrev pub count_before : Part → ℕ
count_before part = if part.is_renewed then 0 else count_of part.own part.from

abbrev pub records_of_part : Part → List Record
records_of_part part = drop (count_before part) (take (count_of part.own (part.from + part.count)) (records_of_volume part.own))

abbrev pub records_of : List Part → List Record
records_of [] = []
records_of (part ∷ parts) = records_of_part part ++ records_of parts

-- Where recording goes on: at the same place, or with the first entry of a later volume. What was recorded of the tenant before a whole volume is of no use, so it needn't be the next one.
abbrev pub GoesOn : RecordedReach → RecordedReach → Bool → Type 0
GoesOn reach at false = at ≡ reach
GoesOn reach at true = (at.entries ≡ 0) × (reach.volume.number < at.volume.number)

abbrev pub IsNextPart : RecordedReach → Part → Type 0
IsNextPart reach part = (part.own.id ≡ part.tenant) × GoesOn reach (reach_of part part.from) part.is_renewed × (part.from + part.count ≤ length part.own.trail) × IsLegal part.own

-- how far each tenant is recorded, before these parts and after them
abbrev pub Counts : List RecordedReach → List Part → List RecordedReach → Type 0
Counts reaches [] new = new ≡ reaches
Counts reaches (part ∷ parts) new =
    ((reach : RecordedReach) × (slice_get reaches part.tenant ≡ Some reach) × IsNextPart reach part)
    × Counts (slice_set reaches part.tenant (reach_of part (part.from + part.count))) parts new

-- the opening of the volume is recorded, and the tenant has turned to it
abbrev pub HasTurned : RecordedReach → Type 0
HasTurned reach = reach.volume.opening ≤ reach.entries

abbrev pub IsAmong : Tenant → List Tenant → Type 0
IsAmong own [] = ⊥
IsAmong own (v ∷ life) = (own ≡ v) ⊎ IsAmong own life

-- ---- laws

module _ (bound : Bound) (t : ℕ) where
  -- Where the volume that is recorded last is turned to, the records make the tenant as it stood there. What was recorded before it counts no more.
  abbrev pub PartsMakeTheVolume : Type 0
  PartsMakeTheVolume =
      (v : Tenant) (ws : List Tenant) → IsLife v ws → AreVolumes bound t (v ∷ ws) → (parts : List Part) → AreOf t parts → AreMoments parts (v ∷ ws)
      → (reaches new : List RecordedReach) → slice_get reaches t ≡ Some first_reach → Counts reaches parts new
      → (reach : RecordedReach) → slice_get new t ≡ Some reach → HasTurned reach → (own : Tenant) → IsAmong own (v ∷ ws) → own.volume ≡ reach.volume
      → made_of bound t (records_of parts) ≡ state_of t bound (take reach.entries own.trail)

  -- While a further volume is recorded as a draft, the records make the tenant as they did before it.
  abbrev pub DraftsWait : Type 0
  DraftsWait =
      (parts : List Part) (part : Part) → part.tenant ≡ t → part.own.id ≡ t → part.is_renewed ≡ true → part.from ≡ 0 → part.count < part.own.volume.opening
      → made_of bound t (records_of (parts ++ part ∷ [])) ≡ made_of bound t (records_of parts)
