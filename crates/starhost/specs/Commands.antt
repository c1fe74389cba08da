-- Promise: what the program does, and what it tells on standard error.
use Rattle.std.specs.Prelude.{◌≡◌, ◌⊎◌, ◌++◌, ℕ, Bool, true, false, List, [], Option, Result, Ok, Err, codes}
use Rattle.std.specs.Io.KnownBytes.{Appends, Keeps}
use Rattle.sb_tenant.specs.declared.bound.Bound.{Bound}
use Rattle.sb_cell.specs.Tenants.{IsNew, Cell as ItsCell}
use Rattle.sb_wire.specs.Counts.{IsSummary, Summarizes, summary_line}
use Rattle.sb_wire.specs.Faults.{fault_line}
use Rattle.sb_wire.specs.Stream.{EndsBy, MayFail, OnWriteFault, Streams}
use Rattle.sb_wire.specs.declared.fault.StreamError.{StreamError}
use Rattle.sb_wire.specs.declared.fault.StreamError.TheVariants.{WriteFault, NoMemory}
use Rattle.sb_wire.specs.declared.summary.Summary.{Summary}

-- success, and a fault
abbrev pub status_of : Result (Unit {0}) StreamError → ℕ
status_of (Ok value) = 0
status_of (Err error) = 1

-- nothing is told of a success
abbrev pub line_of : Result (Unit {0}) StreamError → List ℕ
line_of (Ok value) = []
line_of (Err error) = fault_line error

-- a text is written behind what stands there, or a first part of it where the writer may fail
abbrev pub Tells : {W : Type 0} → (W → Type 0) → (W → Option (List ℕ)) → W → W → List ℕ → Type 0
Tells refuses contents old new text =
    (written left : List ℕ) × (text ≡ written ++ left) × Appends (contents old) (contents new) written
    × ((left ≡ []) ⊎ MayFail refuses contents new)

-- in place of a summary
abbrev pub no_summary : List ℕ
no_summary = codes "no memory for a summary\n"

-- a terminal has the summary's line, or one in its place for want of memory; a file or a pipe has none
abbrev pub IsSummaryLine : Bool → Summary → List ℕ → Type 0
IsSummaryLine false summary line = line ≡ []
IsSummaryLine true summary line = (line ≡ summary_line summary) ⊎ (line ≡ no_summary)

-- what a run tells of itself: the summary, and behind it the fault that ended it
abbrev pub TellsRun : {W : Type 0} → (W → Type 0) → (W → Option (List ℕ)) → Bool → W → W → Summary → Result (Unit {0}) StreamError → Type 0
TellsRun refuses contents is_terminal old new summary ended =
    (line : List ℕ) × IsSummaryLine is_terminal summary line × Tells refuses contents old new (line ++ line_of ended)

-- A stream on a fresh cell of so many tenants, with this bound: there is no room for a cell, or the stream goes on one. The summary counts its replies.
abbrev pub GoesFresh : {R W : Type 0} → (R → Type 0) → (R → Option (List ℕ)) → (W → Type 0) → (W → Option (List ℕ)) → ℕ → Bound → R → R → W → W
    → Result (Unit {0}) StreamError → Summary → Type 0
GoesFresh fails remaining refuses contents tenants bound reader rest writer after ended summary =
    (((ended ≡ Err NoMemory) × Keeps (remaining reader) (remaining rest) × Keeps (contents writer) (contents after) × IsSummary [] summary)
    ⊎ ((old new : ItsCell) × IsNew 0 1 tenants bound old
    × (s : Streams old (remaining reader) (contents writer) new (remaining rest) (contents after))
    × EndsBy fails remaining rest s.seen s.pieces s.left ended × Summarizes s.pieces s.replies.text summary))
    × OnWriteFault ended (MayFail refuses contents after)

-- A text that is asked for is written, with status 0, and nothing is told; or the writer took a first part of it, and this is told, with status 1.
module _ {W E : Type 0} (refuses : W → Type 0) (contents : W → Option (List ℕ)) (denies : E → Type 0) (told : E → Option (List ℕ)) where
  abbrev pub Shows : List ℕ → W → W → E → E → ℕ → Type 0
  Shows text writer after errors more status =
      ((status ≡ 0) × Appends (contents writer) (contents after) text × (more ≡ errors))
      ⊎ ((status ≡ 1) × ((written left : List ℕ) × (text ≡ written ++ left) × Appends (contents writer) (contents after) written)
      × MayFail refuses contents after × Tells denies told errors more (fault_line WriteFault))
