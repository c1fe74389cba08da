-- Machine: the first and the last of a list of changes, and where a walk ends.
use Rattle.std.specs.Prelude.{◌≡◌, List, [], ◌∷◌, ◌++◌, Option, Some, MatchOption}
use Rattle.sb_value.specs.NetEffect.{last_of}
use Rattle.sb_value.specs.declared.change.Change.{Change}
use Rattle.sb_rawlog.specs.declared.spot.Spot.{Spot}
use Rattle.sb_rawlog.specs.Records.{Record, change_at}
use Rattle.sb_rawlog.specs.Steps.{tuple_todo, TupleOlder}

-- the changes begin and end with these
pub record IsSpan (first last : Change) (changes : List Change) : Type 0 where
  pub newer : List Change
  pub are : changes ≡ first ∷ newer
  pub last_is : last ≡ last_of first newer

-- the spot's change is the last that its walk has left
pub record EndsAt (rs : List Record) (s : Spot) : Type 0 where
  pub change : Change
  pub here : change_at s.time rs ≡ Some change
  pub left : tuple_todo rs (Some s) ≡ (s.time, change) ∷ []

-- the spot of an older change of the same walk, or none where the walk ends
abbrev pub GoesBack : (Spot → Type 0) → List Record → Spot → Option Spot → Type 0
GoesBack ok rs at result = MatchOption result (EndsAt rs at) (TupleOlder ok rs at)

-- the walk from a spot ends at this one
pub record IsOldest (ok : Spot → Type 0) (rs : List Record) (from s : Spot) : Type 0 where
  pub stands : ok s
  pub ends : EndsAt rs s
  pub passed : List Record
  pub left : tuple_todo rs (Some from) ≡ passed ++ tuple_todo rs (Some s)
