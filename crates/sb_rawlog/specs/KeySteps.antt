-- Machine: what a step of a walk for a key answers.
use Rattle.std.specs.Prelude.{◌≡◌, ℕ, true, List, [], ◌∷◌, Option, Some, None}
use Rattle.sb_rawlog.specs.declared.key.Key.{Key}
use Rattle.sb_rawlog.specs.declared.spot.Spot.{Spot}
use Rattle.sb_rawlog.specs.Changes.{author}
use Rattle.sb_rawlog.specs.Keys.{fits}
use Rattle.sb_rawlog.specs.Records.{Record, walk, before, change_at}

-- the spot of the record in the place, on a walk that goes back to since
abbrev pub spot_of : ℕ → ℕ → Record → Spot
spot_of place since r = record { place = place; time = r.0; since = since; who = author r.1; table = r.1.table; kind = r.1.kind; tuple = r.1.tuple }

-- the spot of the first record of todo, on a walk over the changes that fit the key
pub record KeySpot (ok : Spot → Type 0) (rs : List Record) (key : Key) (since : ℕ) (todo : List Record) (s : Spot) : Type 0 where
  pub found : Record
  pub is : s ≡ spot_of s.place since found
  pub stands : ok s
  pub here : change_at found.0 rs ≡ Some found.1
  pub good : fits key found.1 ≡ true
  pub first : todo ≡ found ∷ walk (fits key) since (before found.0 rs)

-- the spot of the first record of todo, or none where there is none
abbrev pub KeyStep : (Spot → Type 0) → List Record → Key → ℕ → List Record → Option Spot → Type 0
KeyStep ok rs key since todo None = todo ≡ []
KeyStep ok rs key since todo (Some s) = KeySpot ok rs key since todo s

-- the newest change that fits the key and is no older than since
abbrev pub KeyFirst : (Spot → Type 0) → List Record → Key → ℕ → Option Spot → Type 0
KeyFirst ok rs key since = KeyStep ok rs key since (walk (fits key) since rs)

-- the next older change than the spot's that fits the key
abbrev pub KeyNext : (Spot → Type 0) → List Record → Key → Spot → Option Spot → Type 0
KeyNext ok rs key at = KeyStep ok rs key at.since (walk (fits key) at.since (before at.time rs))
