-- Promise: the extended query: a statement is prepared, bound to values as a portal, described and played.
use Rattle.std.specs.Prelude.{◌≡◌, ◌⊎◌, ℕ, Bool, if◌then◌else◌, List, [], ◌∷◌, ◌++◌, Option, Some, None, is_some, Result, Ok, Err}
use Rattle.sb_postgres.specs.declared.client_message.Target.{Target}
use Rattle.sb_postgres.specs.declared.client_message.Target.TheVariants as target
use Rattle.sb_postgres.specs.Answers.{Answered, BindComplete, CloseComplete, EmptyQueryResponse, NoData, ParameterDescription, ParseComplete, RowDescription, SeenColumn}
use Rattle.sb_frontend.specs.declared.denial.Denial.{Denial}
use Rattle.sb_frontend.specs.declared.denial.Denial.TheVariants as d
use Rattle.sb_frontend.specs.declared.phase.Phase.TheVariants as phase
use Rattle.sb_frontend.specs.Columns.{without_columns}
use Rattle.sb_frontend.specs.Denials.{Comes, state_of, text_of}
use Rattle.sb_frontend.specs.Names.{named}
use Rattle.sb_frontend.specs.Outputs.{FailsBy, completed}
use Rattle.sb_frontend.specs.Plays.{Commits, GivesUp, PlaysOne, Spot}
use Rattle.sb_frontend.specs.Portals.{IsBound, IsPrepared, Portal, Prepared, Workbench, bound, closed, prepared, started}
use Rattle.sb_frontend.specs.Standings.{Part, Standing, has_in, ready}

-- ---- how a message ends

-- behind an error a transaction is rolled back that was begun unasked
abbrev pub GivesUpIn : Option Spot → Option Spot → Type 0
GivesUpIn None new = new ≡ None
GivesUpIn (Some old) new = (spot : Spot) × GivesUp old spot × (new ≡ Some spot)

-- an error is told, and messages are skipped up to the next `Sync`
abbrev pub Fails : Denial → Part
Fails why old ms new = FailsBy (state_of why) (text_of why) ms × (spot : Option Spot) × GivesUpIn old.spot spot × (new ≡ record { phase = phase.Skipping; spot = spot; work = old.work })

-- this message is told, and this work is left; or it fails
abbrev pub EndsWith : Answered → Result Workbench Denial → Part
EndsWith m (Ok work) old ms new = (ms ≡ m ∷ []) × (new ≡ record old { work = work })
EndsWith m (Err why) old ms new = Fails why old ms new

-- ---- Parse, Bind, Close

abbrev pub Parses : List ℕ → List ℕ → List ℕ → Part
Parses name text types old ms new =
    (made : Result Prepared Denial) × (left : Result Workbench Denial) × IsPrepared text types made × Comes (prepared name made old.work) left × EndsWith ParseComplete left old ms new

abbrev pub BindsMade : List ℕ → Result Portal Denial → Part
BindsMade portal made old ms new = (left : Result Workbench Denial) × Comes (bound portal made old.work) left × EndsWith BindComplete left old ms new

abbrev pub Binds : List ℕ → List ℕ → List ℕ → List (Option (List ℕ)) → List ℕ → Part
Binds portal statement formats values results old ms new =
    (made : Result Portal Denial) × IsBound (named statement old.work.statements) formats values results made × BindsMade portal made old ms new

abbrev pub Closes : Target → List ℕ → Part
Closes t name old ms new = (ms ≡ CloseComplete ∷ []) × (new ≡ record old { work = closed t name old.work })

-- ---- Describe

-- columns that are told as a describer knows them, or none
abbrev pub TellsColumns : List Answered → Type 0
TellsColumns ms = (ms ≡ NoData ∷ []) ⊎ ((columns : List SeenColumn) × (ms ≡ RowDescription columns ∷ []))

abbrev pub TellsPrepared : Prepared → List Answered → Type 0
TellsPrepared p ms = (told : List Answered) × TellsColumns told × (ms ≡ ParameterDescription p.types ∷ told)

abbrev pub DescribesStatement : Option Prepared → Part
DescribesStatement None old ms new = Fails d.NoStatement old ms new
DescribesStatement (Some p) old ms new = TellsPrepared p ms × (new ≡ old)

abbrev pub DescribesPortal : Option Portal → Part
DescribesPortal None old ms new = Fails d.NoPortal old ms new
DescribesPortal (Some p) old ms new = TellsColumns ms × (new ≡ old)

abbrev pub Describes : Target → List ℕ → Part
Describes target.Statement name old ms new = DescribesStatement (named name old.work.statements) old ms new
Describes target.Portal name old ms new = DescribesPortal (named name old.work.portals) old ms new

-- ---- Execute

abbrev pub phase_after : Option (List ℕ) → Standing → Standing
phase_after tag old = if is_some tag then old else record old { phase = phase.Skipping }

-- A statement is played as one of a query's is, but that its columns were told before, and its transaction lasts up to the next `Sync`.
abbrev pub PlaysPortal : List ℕ → Option Spot → Part
PlaysPortal bytes None old ms new = (ms ≡ []) × (new ≡ old)
PlaysPortal bytes (Some spot) old ms new =
    (told : List Answered) × (tag : Option (List ℕ)) × (mid : Spot) × PlaysOne without_columns bytes spot told tag mid
    × (ms ≡ told ++ completed tag) × (new ≡ phase_after tag (record old { spot = Some mid }))

abbrev pub working : Workbench → Standing → Standing
working work old = record old { work = work }

abbrev pub RunsLine : Option (List ℕ) → Part
RunsLine None old ms new = (ms ≡ EmptyQueryResponse ∷ []) × (new ≡ old)
RunsLine (Some bytes) old ms new = PlaysPortal bytes old.spot old ms new

abbrev pub Runs : Result (Option (List ℕ) × Workbench) Denial → Part
Runs (Ok found) old ms new = RunsLine found.0 (working found.1 old) ms new
Runs (Err why) old ms new = Fails why old ms new

abbrev pub Executes : List ℕ → ℕ → Part
Executes name rows old ms new = (found : Result (Option (List ℕ) × Workbench) Denial) × Comes (started name rows old.work) found × Runs found old ms new

-- ---- Sync

-- a transaction that was begun unasked is committed
abbrev pub CommitsIn : Option Spot → List Answered → Option Spot → Type 0
CommitsIn None ms new = (ms ≡ []) × (new ≡ None)
CommitsIn (Some old) ms new = (well : Bool) × (spot : Spot) × Commits old ms well spot × (new ≡ Some spot)

-- a portal lasts as long as its transaction
abbrev pub left_of : Option Spot → Workbench → Workbench
left_of spot work = if has_in spot then work else record work { portals = [] }

abbrev pub Synchronizes : Part
Synchronizes old ms new =
    (told : List Answered) × (spot : Option Spot) × CommitsIn old.spot told spot × (ms ≡ told ++ ready spot ∷ [])
    × (new ≡ record { phase = phase.Ready; spot = spot; work = left_of spot old.work })
