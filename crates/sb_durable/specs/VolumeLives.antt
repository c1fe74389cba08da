-- Promise: what is to be recorded of a tenant's whole life, volume by volume, and what it makes.
use Rattle.std.specs.Prelude.{◌≡◌, ℕ, List, [], ◌∷◌, ◌++◌}
use Rattle.sb_tenant.specs.declared.bound.Bound.{Bound}
use Rattle.sb_durable.specs.Records.{Entry as Record}
use Rattle.sb_durable.specs.RecordedLives.{IsLife, last_of, steps_in}
use Rattle.sb_durable.specs.VolumeRecords.{made_of, renewal_records}
use Rattle.sb_tenant.specs.Tenant.{Tenant}
use Rattle.sb_tenant.specs.Trail.{IsTrail, state_of}

module _ (bound : Bound) (t : ℕ) where
  -- each is a volume of the tenant, with a legal trail
  abbrev pub AreVolumes : List Tenant → Type 0
  AreVolumes [] = Unit {0}
  AreVolumes (v ∷ vs) = (v.id ≡ t) × IsTrail t bound v.trail × AreVolumes vs

  -- of each further volume its opening as a whole volume, and behind it what its sessions did
  abbrev pub steps_behind : List Tenant → List Record
  steps_behind [] = []
  steps_behind (w ∷ ws) = renewal_records w ++ (steps_in t w ++ steps_behind ws)

  abbrev pub steps_of_life : Tenant → List Tenant → List Record
  steps_of_life v ws = steps_in t v ++ steps_behind ws

  -- The records of a life make the tenant as its last volume leaves it.
  abbrev pub LivesAreMade : Type 0
  LivesAreMade = (v : Tenant) (ws : List Tenant) → IsLife v ws → AreVolumes (v ∷ ws) → made_of bound t (steps_of_life v ws) ≡ state_of t bound (last_of v ws).trail
