-- Promise: a run on tenants that scripts made.
use Rattle.std.specs.Prelude.{◌≡◌, ◌⊎◌, ◌<◌, ℕ, nat_lt, List, Option, Result}
use Rattle.sb_tenant.specs.declared.bound.Bound.{Bound}
use Rattle.sb_cell.specs.Tenants.{Cell as ItsCell, hosts, states}
use Rattle.sb_dump.specs.Dumps.{played, whole_session}
use Rattle.sb_tenant.specs.State.{State, opening}
use Rattle.sb_wire.specs.Counts.{Summarizes}
use Rattle.sb_wire.specs.Stream.{AnswersInput, EndsBy, MayFail, OnWriteFault, Streams}
use Rattle.sb_wire.specs.declared.fault.StreamError.{StreamError}
use Rattle.sb_wire.specs.declared.fault.StreamError.TheVariants as stream
use Rattle.sb_wire.specs.declared.summary.Summary.{Summary}
use Rattle.sb_backup.specs.LoadedCells.{AreTaken, MayHave, MayLack}
use Rattle.sb_backup.specs.declared.error.BackupError.{BackupError}
use Rattle.sb_backup.specs.declared.error.BackupError.TheVariants.{CannotLoad, NoFolder, Stream}

-- a tenant is what one session of it left: it was opened, sent these lines, and ended, and each of them was answered as a script's line is
abbrev pub IsPlayedBy : ℕ → Bound → List (List ℕ) → State → Type 0
IsPlayedBy t bound lines state = (state ≡ played t bound lines) × AreTaken t bound opening (whole_session lines)

-- a tenant has no tables and rules; or it is what some lines left
abbrev pub IsScripted : ℕ → Bound → State → Type 0
IsScripted t bound state = (state ≡ opening) ⊎ ((lines : List (List ℕ)) × IsPlayedBy t bound lines state)

-- so it is by what is known of its file
abbrev pub IsScriptedBy : ℕ → Bound → Option (Option (List ℕ)) → State → Type 0
IsScriptedBy t bound known state =
    ((state ≡ opening) × MayLack known) ⊎ ((lines : List (List ℕ)) × MayHave known lines × IsPlayedBy t bound lines state)

-- a cell of the tenants below a number, each of them such
pub record IsLoaded (tenants : ℕ) (bound : Bound) (cell : ItsCell) : Type 0 where
  pub hosted : (t : ℕ) → hosts cell t ≡ nat_lt t tenants
  pub at_most : cell.bound ≡ bound
  pub scripted : (t : ℕ) → IsScripted t bound (states cell t)

-- the same, each of them by what is known of its file
pub record IsLoadedFrom (files : ℕ → Option (Option (List ℕ))) (tenants : ℕ) (bound : Bound) (cell : ItsCell) : Type 0 where
  pub loaded : IsLoaded tenants bound cell
  pub from_files : (t : ℕ) → t < tenants → IsScriptedBy t bound (files t) (states cell t)

-- the text answers the lines of an input on such a cell
pub record AnswersLoaded (tenants : ℕ) (bound : Bound) (input text : List ℕ) : Type 0 where
  pub loaded : ItsCell
  pub is_loaded : IsLoaded tenants bound loaded
  pub after : ItsCell
  pub answers : AnswersInput loaded input text after

-- a stream goes on such a cell, and the summary counts its replies
abbrev pub GoesLoaded : {R W : Type 0} → (R → Type 0) → (R → Option (List ℕ)) → (W → Type 0) → (W → Option (List ℕ)) → ℕ → Bound → R → R → W → W
    → Result (Unit {0}) StreamError → Summary → Type 0
GoesLoaded fails remaining refuses contents tenants bound reader rest writer after ended summary =
    ((old new : ItsCell) × IsLoaded tenants bound old
    × (s : Streams old (remaining reader) (contents writer) new (remaining rest) (contents after))
    × EndsBy fails remaining rest s.seen s.pieces s.left ended × Summarizes s.pieces s.replies.text summary)
    × OnWriteFault ended (MayFail refuses contents after)

-- or there is no folder or no memory, or one of the tenants has a file that can't be read or isn't a script
abbrev pub IsUnloaded : ℕ → BackupError → Type 0
IsUnloaded tenants why =
    (why ≡ NoFolder) ⊎ ((why ≡ Stream stream.NoMemory) ⊎ ((t : ℕ) × (t < tenants) × (why ≡ CannotLoad t)))
