-- Machine: a log in places as a contract sees it.
use Rattle.std.specs.Prelude.{◌≡◌, ℕ, List, get_or, Option, Some, None}
use Rattle.sb_value.specs.declared.change.Change.{Change}
use Rattle.sb_rawlog.specs.Logs.{contents}
use Rattle.sb_rawlog.specs.Changes.{author}
use Rattle.sb_rawlog.specs.Records.{Record}
use Rattle.sb_rawlog.specs.declared.spot.Spot.{Spot}

-- the places, each free or with a change and its time; the clock; and for how many more changes there is room
pub record Raw : Type 0 where
  pub places : List (Option Record)
  pub clock : ℕ
  pub room : ℕ

-- what the places hold, in rising time
abbrev pub records_of : Raw → List Record
records_of l = contents l.clock l.places

-- the spot's place holds a change of its time, and the spot says whose and of what that is
pub record Stands (l : Raw) (s : Spot) : Type 0 where
  pub change : Change
  pub here : get_or l.places s.place None ≡ Some (s.time, change)
  pub who : s.who ≡ author change
  pub table : s.table ≡ change.table
  pub kind : s.kind ≡ change.kind
  pub tuple : s.tuple ≡ change.tuple
