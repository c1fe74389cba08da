-- Machine: what is true of the fields of a plain log.
use Rattle.std.specs.Prelude.{◌≡◌, ℕ, ◌<◌, Bool, true, List, ◌∷◌, Some, length, slice_get}
use Rattle.sb_value.specs.declared.change.Change.{Change}
use Rattle.sb_rawlog.specs.declared.spot.Spot.{Spot}
use Rattle.sb_rawlog.specs.Records.{Record, walk, before, change_at}

-- the record at the index comes first among those that are selected before the time
pub record Found (p : Change → Bool) (since : ℕ) (rs todo : List Record) (i : ℕ) : Type 0 where
  pub within : i < length rs
  pub record_at : Record
  pub is : slice_get rs i ≡ Some record_at
  pub fits : p record_at.1 ≡ true
  pub here : change_at record_at.0 rs ≡ Some record_at.1
  pub first : todo ≡ record_at ∷ walk p since (before record_at.0 rs)

-- a record of the spot's time is in the list
abbrev pub InList : List Record → Spot → Type 0
InList rs s = (c : Change) × (change_at s.time rs ≡ Some c)
