-- Promise: what a replay writes, and why it fails.
use Rattle.std.specs.Prelude.{◌≡◌, ◌⊎◌, ⊤, ◌+◌, ◌*◌, ◌<◌, ◌≤◌, ℕ, true, List, [], ◌++◌, get_or, length, flat_map, Option, IfSome, Ok, Err, Vec}
use Rattle.std.specs.Global.{Global}
use Rattle.std.specs.List.{All, Contains}
use Rattle.std.specs.Io.KnownBytes.{Appends, Consumes, Keeps}
use Rattle.sb_tenant.specs.declared.bound.Bound.{Bound}
use Rattle.sb_tenant.specs.declared.reply.Entry.{Entry}
use Rattle.sb_tenant.specs.Limits.{session_count, trail_limit}
use Rattle.sb_wire.specs.Counts.{totals_line}
use Rattle.sb_wire.specs.Lines.{Addressed}
use Rattle.sb_wire.specs.Stream.{MayFail, read_limit}
use Rattle.sb_replay.specs.Input.{IsAsked, IsBadLine, commands_for}
use Rattle.sb_replay.specs.Scripts.{HoldsScript}
use Rattle.sb_desk.specs.declared.desk.AttachError.{AttachError}
use Rattle.sb_desk.specs.declared.desk.AttachError.TheVariants.{AlreadyOpen, TrailFull, NotBegun}
use Rattle.sb_desk.specs.Calls.{IsRefused, Session}
use Rattle.sb_host.specs.Finish.{Agrees, AreTrails, Finishes, IsInOrder, rank, row_at, steps_in, wanted}
use Rattle.sb_desk.specs.Stubs.{LeavesStub}
use Rattle.sb_host.specs.declared.finish.FinishError.{FinishError}
use Rattle.sb_host.specs.declared.finish.FinishError.TheVariants.{Mismatch}
use Rattle.sb_host.specs.declared.finish.Report.{Report}
use Rattle.sb_desk.specs.declared.stub.Stub.{Stub}
use Rattle.sb_replay.specs.declared.error.ReplayError.{ReplayError}
use Rattle.sb_replay.specs.declared.error.ReplayError.TheVariants.{ReadFault, WriteFault, BadLine, Attach, Finish, NoMemory}
use Rattle.sb_replay.specs.declared.error.ScriptError.{ScriptError}
use Rattle.sb_replay.specs.declared.error.ScriptError.TheVariants as script
use Rattle.sb_replay.specs.Parts.{AreAttended}
use Rattle.sb_replay.specs.Sessions.{Attends}
use Rattle.sb_replay.specs.Sheets.{Sheet, texts_of}

-- all texts, one behind another, and the line that tells of the trails
abbrev pub replay_text : List (List ℕ) → List (Vec Entry Global) → List ℕ
replay_text texts trails = flat_map (λ text. text) texts ++ totals_line (length trails) (steps_in trails)

-- the text of session s of tenant t
abbrev pub text_at : List (List ℕ) → ℕ → ℕ → List ℕ
text_at texts t s = get_or texts (rank t s) []

-- On a fresh host of so many tenants: legal trails, in which each session has just the entries of its commands, and the text of the
-- sessions in the order of their tenants and numbers.
pub record Replays (tenants : ℕ) (bound : Bound) (input text : List ℕ) : Type 0 where
  pub asks : List Addressed
  pub asked : IsAsked tenants input asks
  pub trails : List (Vec Entry Global)
  pub legal : AreTrails bound tenants trails
  pub texts : List (List ℕ)
  pub count : length texts ≡ session_count * tenants
  pub attends : (t s : ℕ) → t < tenants → s < session_count
      → Attends t s (commands_for t s asks) (wanted t s trails) (length (row_at trails t)) (text_at texts t s)
  pub text_is : text ≡ replay_text texts trails

-- ---- the host is finished

-- a session that was told of a full trail has one
abbrev pub IsFullBy : List (Vec Entry Global) → Sheet → Type 0
IsFullBy trails sheet = sheet.is_full ≡ true → trail_limit ≤ length (row_at trails sheet.tenant)

-- it was told so, and the trail denies it
abbrev pub IsDenied : List (Vec Entry Global) → Sheet → Type 0
IsDenied trails sheet = (sheet.is_full ≡ true) × (length (row_at trails sheet.tenant) < trail_limit)

-- trails with which all stubs agree, and this is the text
pub record Reports (tenants : ℕ) (bound : Bound) (stubs : List Stub) (sheets : List Sheet) (text : List ℕ) : Type 0 where
  pub trails : List (Vec Entry Global)
  pub legal : AreTrails bound tenants trails
  pub agree : (t s : ℕ) → s < session_count → Agrees t s stubs trails
  pub full : All (IsFullBy trails) sheets
  pub text_is : text ≡ replay_text (texts_of sheets) trails

-- ---- faults

-- a session whose numbers are in range is open already, or its tenant's trail is full
abbrev pub IsUnattached : ℕ → ℕ → ℕ → Type 0
IsUnattached tenants t s = (t < tenants) × (s < session_count) × (IsRefused t s AlreadyOpen ⊎ IsRefused t s TrailFull)

-- so it wasn't opened, or there was no memory
abbrev pub IsUnopened : ℕ → ReplayError → Type 0
IsUnopened tenants (Attach t s) = IsUnattached tenants t s
IsUnopened tenants NoMemory = ⊤
IsUnopened tenants other = ⊥

-- a session left receipts that don't stand in the order of their steps
abbrev pub IsDisordered : FinishError → Type 0
IsDisordered (Mismatch t s) =
    (session : Session) × (stub : Stub) × LeavesStub session stub × (stub.tenant ≡ t) × (stub.session ≡ s) × (IsInOrder stub.receipts.items → ⊥)
IsDisordered other = ⊥

-- so it was, or there was no memory
abbrev pub IsUnclosed : ReplayError → Type 0
IsUnclosed (Finish e) = IsDisordered e
IsUnclosed NoMemory = ⊤
IsUnclosed other = ⊥

-- not all sessions were opened, called and closed
abbrev pub IsUnplayed : ℕ → ReplayError → Type 0
IsUnplayed tenants (Attach t s) = IsUnattached tenants t s
IsUnplayed tenants (Finish e) = IsDisordered e
IsUnplayed tenants NoMemory = ⊤
IsUnplayed tenants other = ⊥

-- this session was told of a full trail, which the trail denies
abbrev pub DeniesSheet : List (Vec Entry Global) → Sheet → FinishError → Type 0
DeniesSheet trails sheet (Mismatch t s) =
    (t ≡ sheet.tenant) × (s ≡ sheet.number) × (sheet.is_full ≡ true) × (length (row_at trails sheet.tenant) < trail_limit)
DeniesSheet trails sheet other = ⊥

-- one of these was
abbrev pub DeniesOne : List (Vec Entry Global) → List Sheet → FinishError → Type 0
DeniesOne trails sheets e = (sheet : Sheet) × Contains sheets sheet × DeniesSheet trails sheet e

-- `finish` answered so of these stubs, or reported, and one of these sessions was told of a full trail that isn't
abbrev pub IsUnreported : ℕ → Bound → List Stub → List Sheet → FinishError → Type 0
IsUnreported tenants bound stubs sheets e =
    Finishes bound tenants stubs (Err e)
    ⊎ ((report : Report) × Finishes bound tenants stubs (Ok report) × DeniesOne report.trails.items sheets e)

-- so it was, or there was no memory
abbrev pub IsUnfinished : ℕ → Bound → List Stub → List Sheet → ReplayError → Type 0
IsUnfinished tenants bound stubs sheets (Finish e) = IsUnreported tenants bound stubs sheets e
IsUnfinished tenants bound stubs sheets NoMemory = ⊤
IsUnfinished tenants bound stubs sheets other = ⊥

-- so it was of the sessions of an input, which were called with all their commands; or the receipts of one deny its own order
abbrev pub FailsToFinish : ℕ → Bound → Option (List ℕ) → FinishError → Type 0
FailsToFinish tenants bound known e =
    ((rows : List (Vec (Vec ℕ Global) Global)) × (sheets : List Sheet) × (stubs : List Stub)
    × IfSome known (λ input. HoldsScript tenants input rows) × AreAttended rows sheets stubs × IsUnreported tenants bound stubs sheets e)
    ⊎ IsDisordered e

-- what a session that isn't attached is told as
abbrev pub unattached_as : ℕ → ℕ → AttachError → ReplayError
unattached_as t s NotBegun = NoMemory
unattached_as t s other = Attach t s

-- what a fault in reading is told as
abbrev pub unread_by : ScriptError → ReplayError
unread_by script.ReadFault = ReadFault
unread_by (script.BadLine n why) = BadLine n why
unread_by script.NoMemory = NoMemory

-- Nothing is written but where the writer fails. Where the input isn't understood it tells what was read, and where the writer fails
-- what it took of the text.
module _ {R W : Type 0} (fails : R → Type 0) (remaining : R → Option (List ℕ)) (refuses : W → Type 0) (contents : W → Option (List ℕ)) (tenants : ℕ) (bound : Bound) where
  abbrev pub Fails : R → R → W → W → ReplayError → Type 0
  Fails reader reader' writer writer' ReadFault =
      (seen : List ℕ) × Consumes (remaining reader) (remaining reader') seen
      × (MayFail fails remaining reader' ⊎ (read_limit ≤ length seen)) × Keeps (contents writer) (contents writer')
  Fails reader reader' writer writer' (BadLine n why) =
      (seen : List ℕ) × Consumes (remaining reader) (remaining reader') seen × IsBadLine tenants seen n why × Keeps (contents writer) (contents writer')
  Fails reader reader' writer writer' (Attach t s) = IsUnattached tenants t s × Keeps (contents writer) (contents writer')
  Fails reader reader' writer writer' (Finish e) = FailsToFinish tenants bound (remaining reader) e × Keeps (contents writer) (contents writer')
  Fails reader reader' writer writer' NoMemory = Keeps (contents writer) (contents writer')
  Fails reader reader' writer writer' WriteFault =
      (text written left : List ℕ) × IfSome (remaining reader) (λ input. Replays tenants bound input text)
      × (text ≡ written ++ left) × Appends (contents writer) (contents writer') written × MayFail refuses contents writer'
