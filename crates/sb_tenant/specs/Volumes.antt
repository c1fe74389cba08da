-- Promise: the volumes of a tenant's life, one after another. Each has a trail of its own.
use Rattle.std.specs.Prelude.{ℕ, ◌+◌, ◌-◌, ◌^◌, ◌<◌, IsTrue, IsFalse}
use Rattle.sb_tenant.specs.declared.volume.Volume.{Volume}
use Rattle.sb_tenant.specs.Limits.{is_session}
use Rattle.sb_tenant.specs.State.{State, is_open, session_at}

abbrev pub first_volume : Volume
first_volume = record { number = 0; before = 0; opening = 0 }

-- the one behind a volume that ends with so many entries; its own trail begins with so many
abbrev pub following : Volume → ℕ → ℕ → Volume
following volume entries opening =
    record { number = volume.number + 1; before = volume.before + (entries - volume.opening); opening = opening }

-- there is one behind it as long as both counts are numbers of 64 bits
abbrev pub HasFollowing : Volume → ℕ → Type 0
HasFollowing volume entries = (volume.number + 1 < 2 ^ 64) × (volume.before + (entries - volume.opening) < 2 ^ 64)

-- between two volumes no session is open
abbrev pub AreClosed : State → Type 0
AreClosed state = (s : ℕ) → IsTrue (is_session s) → IsFalse (is_open (session_at state s))
