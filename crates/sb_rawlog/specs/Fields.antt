-- Machine: what holds of the fields of a log in places.
use Rattle.std.specs.Prelude.{◌≡◌, ℕ, ◌+◌, ◌≤◌, List, length, vec_capacity}
use Rattle.sb_rawlog.specs.Logs.{shown}
use Rattle.sb_rawlog.specs.declared.raw.RawLog.TheInside.{Inside}
use Rattle.sb_rawlog.specs.Heads.{Hold}
use Rattle.sb_rawlog.specs.Places.{AreFree}
use Rattle.sb_rawlog.specs.Raw.{Raw}

abbrev pub seen : Inside → Raw
seen a = record { places = shown a.arena; clock = a.clock; room = a.room }

-- order is the places in use, from the newest to the oldest
pub record IsRaw (a : Inside) : Type 0 where
  pub order : List ℕ
  pub holds : Hold a.arena a.heads order a.clock
  pub free : AreFree a.free.items a.used a.arena
  pub counted : length order + length a.free.items ≡ a.used
  pub roomy : length a.arena ≤ vec_capacity a.free
  pub spare : a.room + a.used ≤ length a.free.items + length a.arena
