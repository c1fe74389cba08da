-- Promise: how the files of a host's tenants are played, and what the sessions leave.
use Rattle.std.specs.Prelude.{◌≡◌, ◌⊎◌, ◌<◌, ◌+◌, ℕ, zero, suc, List, [], ◌∷◌, ◌++◌, map, Option, None, Some, option_to_list, Result, Ok, Err, ⊤, codes}
use Rattle.std.specs.List.{All}
use Rattle.sb_tenant.specs.declared.reply.Answer.{Answer}
use Rattle.sb_tenant.specs.declared.reply.Reply.TheVariants as told
use Rattle.sb_tenant.specs.State.{session_at}
use Rattle.sb_tenant.specs.Tenant.{Tenant, state}
use Rattle.sb_wire.specs.declared.fault.StreamError.TheVariants as stream
use Rattle.sb_host.specs.Desk.{CallError, Calls, Receipt, Session, Stub, numbered, receipt}
use Rattle.sb_host.specs.Lending.{Lends}
use Rattle.sb_backup.specs.LoadedCells.{IsTaken, MayEnd, MayHave, MayLack}
use Rattle.sb_backup.specs.declared.error.BackupError.{BackupError}
use Rattle.sb_backup.specs.declared.error.BackupError.TheVariants.{CannotLoad, Stream}
use Rattle.sb_backup.specs.declared.cell_loader.Unplayed.{Unplayed}

-- ---- one line

-- no reply to a line of a script
abbrev pub IsUntakenCall : Result Answer CallError → Type 0
IsUntakenCall (Ok answer) = IsTaken answer.reply → ⊥
IsUntakenCall (Err why) = ⊤

-- a call of a session is answered as a script's line is
abbrev pub TakesCall : Session → List ℕ → Session → Type 0
TakesCall old own new = (answer : Answer) × IsTaken answer.reply × Calls old own (Ok answer) new

-- or otherwise
abbrev pub RefusesCall : Session → List ℕ → Session → Type 0
RefusesCall old own new = (given : Result Answer CallError) × IsUntakenCall given × Calls old own given new

-- ---- the lines of a file

-- these receipts are of calls with the lines, one after another, each of which was answered as a script's line is
pub record AreTakenBy (lines : List (List ℕ)) (receipts : List Receipt) : Type 0 where
  pub lines_are : map (λ (r : Receipt). r.line) receipts ≡ lines
  pub taken : All (λ (r : Receipt). IsTaken r.answer.reply) receipts

-- a session was called with the lines, and its receipts are those of before and of these calls
pub record TakesCalls (lines : List (List ℕ)) (old new : Session) : Type 0 where
  pub tenant : new.tenant ≡ old.tenant
  pub session : new.session ≡ old.session
  pub receipts : List Receipt
  pub list : new.list ≡ old.list ++ receipts
  pub are_taken : AreTakenBy lines receipts

-- a tenant's first session was opened, called with the lines, and closed, which ended it
pub record IsPlayedIn (t : ℕ) (lines : List (List ℕ)) (stub : Stub) : Type 0 where
  pub tenant : stub.tenant ≡ t
  pub session : stub.session ≡ 0
  pub first : ℕ
  pub receipts : List Receipt
  pub last : ℕ
  pub list : stub.receipts.items ≡ receipt (codes "open") (numbered first told.Ok) ∷ (receipts ++ receipt (codes "end") (numbered last told.Ok) ∷ [])
  pub are_taken : AreTakenBy lines receipts

-- a tenant of this number was lent, and a script may end where its first session stood, or this is why it may not
abbrev pub StandsAs : ℕ → Option Unplayed → Type 0
StandsAs t why = Lends (λ (own : Tenant) (found : Option Unplayed). MayEnd (session_at (state own) 0) found) t why

-- ---- all files

-- by what is known of its file: a session that was called with the file's lines, up to where a script may end, or none where there may be none
abbrev pub LeavesFor : ℕ → Option (Option (List ℕ)) → Option Stub → Type 0
LeavesFor t known None = MayLack known
LeavesFor t known (Some stub) = (lines : List (List ℕ)) × MayHave known lines × IsPlayedIn t lines stub × StandsAs t None

-- the tenants below a number left these, one after another
abbrev pub LeaveAll : (ℕ → Option (Option (List ℕ))) → ℕ → List Stub → Type 0
LeaveAll files zero stubs = stubs ≡ []
LeaveAll files (suc n) stubs =
    (before : List Stub) × (own : Option Stub) × LeaveAll files n before × LeavesFor n (files n) own × (stubs ≡ before ++ option_to_list own)

-- or there is no memory, or one of the tenants, counted from the first one, has a file that can't be read or isn't a script
abbrev pub IsUnplayedOf : ℕ → ℕ → BackupError → Type 0
IsUnplayedOf first tenants why = (why ≡ Stream stream.NoMemory) ⊎ ((t : ℕ) × (t < tenants) × (why ≡ CannotLoad (first + t)))
