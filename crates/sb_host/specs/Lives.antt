-- Promise: how many steps the sessions of tenants made in their whole lives.
use Rattle.std.specs.Prelude.{ℕ, ◌+◌, ◌-◌, ◌≡◌, List, [], ◌∷◌, length, sum_by, Vec}
use Rattle.std.specs.Global.{Global}
use Rattle.sb_tenant.specs.declared.reply.Entry.{Entry}
use Rattle.sb_tenant.specs.declared.volume.Volume.{Volume}
use Rattle.sb_tenant.specs.Tenant.{Tenant}
use Rattle.sb_tenant.specs.Volumes.{first_volume, following}

-- ---- one life

-- the steps of a volume that ends with so many entries: those of its opening no session made
abbrev pub volume_steps : Volume → ℕ → ℕ
volume_steps volume entries = entries - volume.opening

-- the steps of the life that this volume is the last one of: those of the volumes that ended, and its own
abbrev pub life_steps : Volume → ℕ → ℕ
life_steps volume entries = volume.before + volume_steps volume entries

-- ---- the lives of all tenants

-- of so many trails, by number, with the volumes that they are
abbrev pub steps_made_in : List (Vec Entry Global) → List Volume → ℕ
steps_made_in (trail ∷ trails) (volume ∷ volumes) = life_steps volume (length trail.items) + steps_made_in trails volumes
steps_made_in trails volumes = 0

-- ---- why that is the number

-- a tenant as each of its volumes ended, one behind another
abbrev pub Follow : Tenant → List Tenant → Type 0
Follow own [] = Unit {0}
Follow own (next ∷ later) = (next.volume ≡ following own.volume (length own.trail) next.volume.opening) × Follow next later

-- from the first volume on
abbrev pub IsLife : Tenant → List Tenant → Type 0
IsLife first later = (first.volume ≡ first_volume) × Follow first later

abbrev pub last_of : Tenant → List Tenant → Tenant
last_of own [] = own
last_of own (next ∷ later) = last_of next later

-- The steps of a life are the steps of its volumes, added up.
abbrev pub LivesAddUp : Type 0
LivesAddUp = (first : Tenant) (later : List Tenant) → IsLife first later →
    life_steps (last_of first later).volume (length (last_of first later).trail)
    ≡ sum_by (λ (own : Tenant). volume_steps own.volume (length own.trail)) (first ∷ later)
