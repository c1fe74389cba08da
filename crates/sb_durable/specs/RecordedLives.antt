-- Promise: what is recorded of a tenant's whole life.
use Rattle.std.specs.Prelude.{◌≡◌, ◌⊎◌, ℕ, ◌≤◌, List, [], ◌∷◌, ◌++◌, Some, length, map, drop, slice_get}
use Rattle.sb_durable.specs.Records.{Entry as Record}
use Rattle.sb_durable.specs.declared.recorded_reach.RecordedReach.{RecordedReach}
use Rattle.sb_durable.specs.Recording.{Part, AreOf, Counts, first_reach, record_of, records_of, renewal_of}
use Rattle.sb_tenant.specs.declared.reply.Entry.{Entry}
use Rattle.sb_tenant.specs.Tenant.{Tenant}
use Rattle.sb_tenant.specs.Volumes.{first_volume, following}

-- ---- a life

-- the volume behind one that ended so, with its opening at least
pub record IsNextVolume (v w : Tenant) : Type 0 where
  pub volume : w.volume ≡ following v.volume (length v.trail) w.volume.opening
  pub opening : w.volume.opening ≤ length w.trail

abbrev pub Follow : Tenant → List Tenant → Type 0
Follow v [] = Unit {0}
Follow v (w ∷ ws) = IsNextVolume v w × Follow w ws

-- the volumes of a tenant from the first one on, each as it ended, and the last one as it is
abbrev pub IsLife : Tenant → List Tenant → Type 0
IsLife v ws = (v.volume ≡ first_volume) × Follow v ws

abbrev pub last_of : Tenant → List Tenant → Tenant
last_of v [] = v
last_of v (w ∷ ws) = last_of w ws

-- a volume stood so once: its trail went on from there
abbrev pub StoodSo : Tenant → Tenant → Type 0
StoodSo own v = (own.volume ≡ v.volume) × ((later : List Entry) × (v.trail ≡ own.trail ++ later))

abbrev pub IsMoment : Tenant → List Tenant → Type 0
IsMoment own [] = ⊥
IsMoment own (v ∷ life) = StoodSo own v ⊎ IsMoment own life

-- each part was read at a moment of the life
abbrev pub AreMoments : List Part → List Tenant → Type 0
AreMoments [] life = Unit {0}
AreMoments (part ∷ parts) life = IsMoment part.own life × AreMoments parts life

-- all of it is recorded
abbrev pub whole_reach : Tenant → RecordedReach
whole_reach own = record { volume = own.volume; entries = length own.trail }

module _ (t : ℕ) where
  -- ---- what it is recorded as

  -- what its sessions did in a volume
  abbrev pub steps_in : Tenant → List Record
  steps_in v = map (record_of t) (drop v.volume.opening v.trail)

  -- a renewal, and what they did, in each further volume
  abbrev pub steps_behind : List Tenant → List Record
  steps_behind [] = []
  steps_behind (w ∷ ws) = renewal_of t ∷ (steps_in w ++ steps_behind ws)

  abbrev pub steps_of_life : Tenant → List Tenant → List Record
  steps_of_life v ws = steps_in v ++ steps_behind ws

  -- The records of parts that were read one after another are a first part of that, and all of it where the last volume is recorded to its end.
  abbrev pub RecordsAreTheSteps : Type 0
  RecordsAreTheSteps =
      (v : Tenant) (ws : List Tenant) → IsLife v ws → (parts : List Part) → AreOf t parts → AreMoments parts (v ∷ ws) →
      (reaches new : List RecordedReach) → slice_get reaches t ≡ Some first_reach → Counts reaches parts new →
      (rest : List Record) × (steps_of_life v ws ≡ records_of parts ++ rest) × (slice_get new t ≡ Some (whole_reach (last_of v ws)) → rest ≡ [])
