-- Machine: what a step of a walk answers.
use Rattle.std.specs.Prelude.{◌≡◌, ℕ, Bool, List, [], ◌∷◌, ◌++◌, Option, Some, None}
use Rattle.std.specs.Borrow.{Bor}
use Rattle.sb_value.specs.declared.id.Who.{Who}
use Rattle.sb_value.specs.declared.change.ChangeKind.{ChangeKind}
use Rattle.sb_value.specs.declared.change.Change.{Change}
use Rattle.sb_rawlog.specs.Changes.{is_op, is_tuple, is_by}
use Rattle.sb_rawlog.specs.declared.spot.Spot.{Spot}
use Rattle.sb_rawlog.specs.Records.{Record, walk, before, without, change_at}

-- the change at the spot comes first in todo, and then what its walk selects before its time
pub record Comes (p : Change → Bool) (rs todo : List Record) (s : Spot) : Type 0 where
  pub change : Change
  pub here : change_at s.time rs ≡ Some change
  pub first : todo ≡ (s.time, change) ∷ walk p s.since (before s.time rs)
  pub kind : s.kind ≡ change.kind
  pub tuple : s.tuple ≡ change.tuple

-- the spot of the first record of todo, on a walk over the changes of a session, table and kind
pub record OpSpot (ok : Spot → Type 0) (rs : List Record) (who : Who) (table : ℕ) (kind : ChangeKind) (since : ℕ) (todo : List Record) (s : Spot) : Type 0 where
  pub stands : ok s
  pub who_is : s.who ≡ who
  pub table_is : s.table ≡ table
  pub kind_is : s.kind ≡ kind
  pub since_is : s.since ≡ since
  pub comes : Comes (is_op who table kind) rs todo s

-- the same, on a walk over the changes of a tuple
pub record TupleSpot (ok : Spot → Type 0) (rs : List Record) (who : Who) (table tuple : ℕ) (since : ℕ) (todo : List Record) (s : Spot) : Type 0 where
  pub stands : ok s
  pub who_is : s.who ≡ who
  pub table_is : s.table ≡ table
  pub tuple_is : s.tuple ≡ tuple
  pub since_is : s.since ≡ since
  pub comes : Comes (is_tuple who table tuple) rs todo s

-- the spot of the first record of todo, or none where there is none
abbrev pub OpStep : (Spot → Type 0) → List Record → Who → ℕ → ChangeKind → ℕ → List Record → Option Spot → Type 0
OpStep ok rs who table kind since todo None = todo ≡ []
OpStep ok rs who table kind since todo (Some s) = OpSpot ok rs who table kind since todo s

abbrev pub TupleStep : (Spot → Type 0) → List Record → Who → ℕ → ℕ → ℕ → List Record → Option Spot → Type 0
TupleStep ok rs who table tuple since todo None = todo ≡ []
TupleStep ok rs who table tuple since todo (Some s) = TupleSpot ok rs who table tuple since todo s

-- the newest change of a session, table and kind that is no older than since
abbrev pub OpFirst : (Spot → Type 0) → List Record → Who → ℕ → ChangeKind → ℕ → Option Spot → Type 0
OpFirst ok rs who table kind since = OpStep ok rs who table kind since (walk (is_op who table kind) since rs)

-- the newest change of a session's tuple that is no older than since
abbrev pub TupleFirst : (Spot → Type 0) → List Record → Who → ℕ → ℕ → ℕ → Option Spot → Type 0
TupleFirst ok rs who table tuple since = TupleStep ok rs who table tuple since (walk (is_tuple who table tuple) since rs)

-- the next older change of the walk that the spot is on
abbrev pub OpNext : (Spot → Type 0) → List Record → Spot → Option Spot → Type 0
OpNext ok rs at = OpStep ok rs at.who at.table at.kind at.since (walk (is_op at.who at.table at.kind) at.since (before at.time rs))

abbrev pub TupleNext : (Spot → Type 0) → List Record → Spot → Option Spot → Type 0
TupleNext ok rs at = TupleStep ok rs at.who at.table at.tuple at.since (walk (is_tuple at.who at.table at.tuple) at.since (before at.time rs))

-- the spots of the records that are still there stay good
abbrev pub SpotsStay : (Spot → Type 0) → (Spot → Type 0) → List Record → Type 0
SpotsStay old new rs = (s : Spot) (c : Change) → old s → change_at s.time rs ≡ Some c → new s

-- the session's newest change, and its time
pub record Newest (who : Who) (rs : List Record) (c : Change) : Type 0 where
  pub time : ℕ
  pub here : change_at time rs ≡ Some c
  pub first : walk (is_by who) 0 rs ≡ (time, c) ∷ walk (is_by who) 0 (before time rs)

-- the session's newest change, or none where it has none
abbrev pub IsNewest : Who → List Record → Option Change → Type 0
IsNewest who rs None = walk (is_by who) 0 rs ≡ []
IsNewest who rs (Some c) = Newest who rs c

-- that change is taken out, and nothing else
abbrev pub TakesNewest : Who → List Record → List Record → Option Change → Type 0
TakesNewest who old new None = (walk (is_by who) 0 old ≡ []) × (new ≡ old)
TakesNewest who old new (Some c) = (newest : Newest who old c) × (new ≡ without newest.time old)

abbrev pub todo_from : (Change → Bool) → List Record → ℕ → ℕ → Option Change → List Record
todo_from p rs since time None = []
todo_from p rs since time (Some c) = (time, c) ∷ walk p since (before time rs)

-- what a walk over changes of a session, table and kind has left at the spot
abbrev pub op_todo : List Record → Option Spot → List Record
op_todo rs None = []
op_todo rs (Some s) = todo_from (is_op s.who s.table s.kind) rs s.since s.time (change_at s.time rs)

-- the same over changes of a tuple
abbrev pub tuple_todo : List Record → Option Spot → List Record
tuple_todo rs None = []
tuple_todo rs (Some s) = todo_from (is_tuple s.who s.table s.tuple) rs s.since s.time (change_at s.time rs)

-- the first of what is left is given, and the others are left
abbrev pub Gives : List Record → Option (ℕ × Bor Change) → List Record → Type 0
Gives todo None rest = (todo ≡ []) × (rest ≡ [])
Gives todo (Some item) rest = todo ≡ (item.0, item.1.now) ∷ rest

-- a walk goes from one spot to the next, and gives what it passes
abbrev pub OpGives : List Record → Option Spot → Option (ℕ × Bor Change) → Option Spot → Type 0
OpGives rs at item next = Gives (op_todo rs at) item (op_todo rs next)

abbrev pub TupleGives : List Record → Option Spot → Option (ℕ × Bor Change) → Option Spot → Type 0
TupleGives rs at item next = Gives (tuple_todo rs at) item (tuple_todo rs next)

-- the spot of an older change of the walk that the spot is on: what is left at it comes last of what is left at the spot
pub record TupleOlder (ok : Spot → Type 0) (rs : List Record) (at s : Spot) : Type 0 where
  pub stands : ok s
  pub who_is : s.who ≡ at.who
  pub table_is : s.table ≡ at.table
  pub tuple_is : s.tuple ≡ at.tuple
  pub since_is : s.since ≡ at.since
  pub first : Record
  pub passed : List Record
  pub left : tuple_todo rs (Some at) ≡ first ∷ (passed ++ tuple_todo rs (Some s))

abbrev pub TupleBack : (Spot → Type 0) → List Record → Spot → Option Spot → Type 0
TupleBack ok rs at None = Unit {0}
TupleBack ok rs at (Some s) = TupleOlder ok rs at s
