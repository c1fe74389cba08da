-- Promise: the commands of an input, gathered by session while it is read.
use Rattle.std.specs.Prelude.{◌≡◌, ◌⊎◌, ⊤, ◌+◌, ◌*◌, ◌<◌, ◌≤◌, ℕ, Bool, false, List, [], ◌++◌, get_or, length, map, Option, None, Some, Result, Ok, Err, Vec}
use Rattle.std.specs.Global.{Global}
use Rattle.std.specs.Io.KnownBytes.{IsAtEnd}
use Rattle.sb_tenant.specs.Limits.{session_count}
use Rattle.sb_wire.specs.Lines.{Addressed, Piece}
use Rattle.sb_wire.specs.Stream.{MayFail, read_limit}
use Rattle.sb_replay.specs.Input.{IsAsked, IsBadAs, IsBadLine, asked, command_for, commands_for, rank}
use Rattle.sb_replay.specs.declared.error.ScriptError.{ScriptError}
use Rattle.sb_replay.specs.declared.error.ScriptError.TheVariants as fault
use Rattle.sb_replay.specs.declared.script.ScriptState.{ScriptState}
use Rattle.sb_replay.specs.declared.script.ScriptState.TheVariants.{Going, BadLine, NoMemory}

-- the number of tenants, and the commands of each rank so far
pub record RankedCommands : Type 0 where
  pub tenants : ℕ
  pub rows : List (List (List ℕ))

-- the commands of a session, as lists
abbrev pub commands_of : Vec (Vec ℕ Global) Global → List (List ℕ)
commands_of row = map (λ c. c.items) row.items

abbrev pub rows_of : List (Vec (Vec ℕ Global) Global) → List (List (List ℕ))
rows_of rows = map commands_of rows

-- those of the rank k
abbrev pub commands_at : List (List (List ℕ)) → ℕ → List (List ℕ)
commands_at rows k = get_or rows k []

-- ---- line by line

-- before the first line
abbrev pub IsFresh : ℕ → RankedCommands → Type 0
IsFresh tenants s = (s.tenants ≡ tenants) × ((k : ℕ) → commands_at s.rows k ≡ [])

-- one command more, behind those of its session
abbrev pub AddsCommand : List (List (List ℕ)) → Addressed → List (List (List ℕ)) → Type 0
AddsCommand old a new =
    (t s : ℕ) → s < session_count → commands_at new (rank t s) ≡ commands_at old (rank t s) ++ command_for t s a

-- Behind so many lines one line more is a command for a session of the host, or isn't, or there was no memory.
abbrev pub TakesBy : RankedCommands → ℕ → Piece → ScriptState → RankedCommands → Type 0
TakesBy old lines p (Going n) new = (a : Addressed) × (asked old.tenants p ≡ Some a) × (n ≡ lines + 1) × AddsCommand old.rows a new.rows
TakesBy old lines p (BadLine n why) new = (asked old.tenants p ≡ None) × IsBadAs old.tenants p why × (n ≡ lines + 1)
TakesBy old lines p NoMemory new = ⊤

abbrev pub Takes : RankedCommands → ℕ → Piece → ScriptState → RankedCommands → Type 0
Takes old lines p progress new = (new.tenants ≡ old.tenants) × TakesBy old lines p progress new

-- what is gathered, and how far the lines were understood
abbrev pub State : Type 0
State = RankedCommands × ScriptState

-- a line is taken until one wasn't; no text answers it
abbrev pub ReadsBy : ScriptState → RankedCommands → Piece → State → Type 0
ReadsBy (Going n) s p new = Takes s n p new.1 new.0
ReadsBy (BadLine n why) s p new = new ≡ (s, BadLine n why)
ReadsBy NoMemory s p new = new ≡ (s, NoMemory)

abbrev pub Reads : State → Piece → List ℕ → State → Type 0
Reads old p text new = (text ≡ []) × ReadsBy old.1 old.0 p new

-- an input is read to its end
abbrev pub is_over : State → Bool
is_over state = false

-- ---- a whole input

-- what is given of the lines
abbrev pub Gives : ScriptState → RankedCommands → Result (Vec (Vec (Vec ℕ Global) Global) Global) ScriptError → Type 0
Gives (Going n) s r = (rows : Vec (Vec (Vec ℕ Global) Global) Global) × (r ≡ Ok rows) × (length rows.items ≡ session_count * s.tenants) × (rows_of rows.items ≡ s.rows)
Gives (BadLine n why) s r = r ≡ Err (fault.BadLine n why)
Gives NoMemory s r = r ≡ Err fault.NoMemory

-- each line of the input is a command for a session of the host, and stands in its row
pub record HoldsScript (tenants : ℕ) (input : List ℕ) (rows : List (Vec (Vec ℕ Global) Global)) : Type 0 where
  pub asks : List Addressed
  pub asked : IsAsked tenants input asks
  pub count : length rows ≡ session_count * tenants
  pub rows_are : (t s : ℕ) → t < tenants → s < session_count → commands_at (rows_of rows) (rank t s) ≡ commands_for t s asks

-- why an input isn't given, of which these bytes were read
abbrev pub FailsToRead : {R : Type 0} → (R → Type 0) → (R → Option (List ℕ)) → ℕ → List ℕ → R → ScriptError → Type 0
FailsToRead fails remaining tenants seen reader fault.ReadFault = MayFail fails remaining reader ⊎ (read_limit ≤ length seen)
FailsToRead fails remaining tenants seen reader (fault.BadLine n why) = IsAtEnd (remaining reader) × IsBadLine tenants seen n why
FailsToRead fails remaining tenants seen reader fault.NoMemory = ⊤
