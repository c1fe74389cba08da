-- Promise: when a tenant's room is short.
use Rattle.std.specs.Prelude.{◌≡◌, ◌-◌, ◌/◌, ℕ, Bool, true, length, nat_lt, Option, None, Some}
use Rattle.sb_tenant.specs.Limits.{trail_limit}
use Rattle.sb_tenant.specs.Tenant.{Tenant}
use Rattle.sb_monitor.specs.declared.room_reading.Room.{Room}

-- less than a tenth of all is left
abbrev pub is_short : ℕ → ℕ → Bool
is_short left all = nat_lt left (all / 10)

-- the number of the tenant's volume and the steps of its trail; and its room is short where that of the trail is
pub record IsRoomOf (own : Tenant) (room : Room) : Type 0 where
  pub volume : room.volume ≡ own.volume.number
  pub steps : room.steps ≡ length own.trail
  pub short : is_short (trail_limit - length own.trail) trail_limit ≡ true → room.is_short ≡ true

abbrev pub IsRead : Tenant → Option Room → Type 0
IsRead own None = ⊥
IsRead own (Some room) = IsRoomOf own room
