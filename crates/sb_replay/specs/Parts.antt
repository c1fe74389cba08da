-- Promise: the parts of a replay, one for each session of a host in the order of their ranks, from the first round to the last.
use Rattle.std.specs.Prelude.{◌≡◌, ⊤, ℕ, zero, suc, ◌+◌, ◌/◌, ◌%◌, List, [], ◌∷◌, ◌++◌, Option, Some, None, Result, Vec}
use Rattle.std.specs.Global.{Global}
use Rattle.std.specs.List.{AllZip}
use Rattle.sb_tenant.specs.declared.reply.Answer.{Answer}
use Rattle.sb_tenant.specs.Limits.{session_count}
use Rattle.sb_desk.specs.declared.desk.CallError.{CallError}
use Rattle.sb_desk.specs.declared.receipts.Receipt.{Receipt}
use Rattle.sb_desk.specs.Receipts.{newcomer}
use Rattle.sb_desk.specs.Calls.{Calls, Session, shown}
use Rattle.sb_host.specs.Finish.{IsInOrder, gathered}
use Rattle.sb_desk.specs.Stubs.{LeavesStub}
use Rattle.sb_desk.specs.declared.stub.Stub.{Stub}
use Rattle.sb_replay.specs.declared.pool.Job.{Job}
use Rattle.sb_replay.specs.declared.pool.Done.{Done}
use Rattle.sb_replay.specs.Lists.{AllCut, AllFrom}
use Rattle.sb_replay.specs.Sessions.{Exchange, Leaves, any_lacks, commands_in, session_text}
use Rattle.sb_replay.specs.Sheets.{Sheet, Tells, fresh, lines_of, telling, with_next}
use Rattle.sb_replay.specs.declared.part.SessionPart.{SessionPart}
use Rattle.sb_replay.specs.declared.round.Waiting.{Waiting}
use Rattle.sb_replay.specs.declared.round.Waiting.TheVariants.{Called, Resting}

-- the tenant and the session of a rank
abbrev pub tenant_at : ℕ → ℕ
tenant_at k = k / session_count

abbrev pub session_at : ℕ → ℕ
session_at k = k % session_count

-- a session is opened where there are commands for it
abbrev pub OpensBy : List (List ℕ) → ℕ → ℕ → Option Session → Type 0
OpensBy [] t s session = session ≡ None
OpensBy (c ∷ cs) t s session = (n : ℕ) × (session ≡ Some (shown (newcomer t s n)))

-- there is no call to make
abbrev pub Rests : Option Session → List (List ℕ) → Type 0
Rests None left = ⊤
Rests (Some session) [] = ⊤
Rests (Some session) (c ∷ cs) = ⊥

-- a session is closed, if there is one, and its receipts stand in the order of their steps
abbrev pub ClosesBy : Option Session → List Stub → Type 0
ClosesBy None stubs = stubs ≡ []
ClosesBy (Some session) stubs = (stub : Stub) × (stubs ≡ stub ∷ []) × LeavesStub session stub × IsInOrder stub.receipts.items

module _ {N : Type 0} where
  -- the part of the rank k, before its first call
  abbrev pub Opens : ℕ → Vec (Vec ℕ Global) Global → SessionPart N → Type 0
  Opens k row part =
      (part.sheet ≡ fresh (tenant_at k) (session_at k) (lines_of row.items))
      × OpensBy (lines_of row.items) (tenant_at k) (session_at k) part.session

  -- one part more, of which P holds
  abbrev pub AddsPart : (SessionPart N → Type 0) → List (SessionPart N) → List (SessionPart N) → Type 0
  AddsPart P old new = (part : SessionPart N) × (new ≡ old ++ part ∷ []) × P part

  -- ---- one round

  -- a part waits for its call's answer, or rests
  abbrev pub Deals : SessionPart N → Waiting N → List (Job Session) → Type 0
  Deals part (Called sheet) jobs =
      (job : Job Session) × (jobs ≡ job ∷ []) × (part ≡ record { session = Some job.session; sheet = with_next job.line.items sheet })
  Deals part (Resting same) jobs = (same ≡ part) × Rests part.session part.sheet.left × (jobs ≡ [])

  abbrev pub DealsOne : SessionPart N → List (Job Session) → List (Waiting N) → List (Job Session) → List (Waiting N) → Type 0
  DealsOne part jobs waiting jobs' waiting' =
      (w : Waiting N) × (own : List (Job Session)) × (waiting' ≡ waiting ++ w ∷ []) × (jobs' ≡ jobs ++ own) × Deals part w own

  -- a call was done, and its answer told
  abbrev pub TellsDone : Sheet → Done Session → SessionPart N → Type 0
  TellsDone sheet done part = (part.session ≡ Some done.session) × Tells sheet done.result done.session.last part.sheet

  -- it is as it was, or has what its call was answered
  abbrev pub Gathers : Waiting N → SessionPart N → List (Done Session) → Type 0
  Gathers (Called sheet) part all = (done : Done Session) × (all ≡ done ∷ []) × TellsDone sheet done part
  Gathers (Resting same) part all = (part ≡ same) × (all ≡ [])

  abbrev pub GathersOne : Waiting N → List (Done Session) → List (SessionPart N) → List (Done Session) → List (SessionPart N) → Type 0
  GathersOne w done parts done' parts' =
      (part : SessionPart N) × (own : List (Done Session)) × (parts' ≡ parts ++ part ∷ []) × (done ≡ own ++ done') × Gathers w part own

  -- how many wait for an answer
  abbrev pub calls_of : Waiting N → ℕ
  calls_of (Called sheet) = 1
  calls_of (Resting part) = 0

  abbrev pub calls : List (Waiting N) → ℕ
  calls [] = 0
  calls (w ∷ ws) = calls_of w + calls ws

  -- one call with the next command; without one nothing changes
  abbrev pub MovesBy : Option Session → List (List ℕ) → SessionPart N → SessionPart N → Type 0
  MovesBy None left old new = new ≡ old
  MovesBy (Some session) [] old new = new ≡ old
  MovesBy (Some session) (line ∷ lines) old new =
      (given : Result Answer CallError) × (after : Session) × Calls session line given after
      × (new ≡ record { session = Some after; sheet = telling (record old.sheet { left = lines }) given })

  abbrev pub Moves : SessionPart N → SessionPart N → Type 0
  Moves old new = MovesBy old.session old.sheet.left old new

  -- ---- all rounds

  abbrev pub MovesIn : ℕ → SessionPart N → SessionPart N → Type 0
  MovesIn zero old new = new ≡ old
  MovesIn (suc n) old new = (mid : SessionPart N) × MovesIn n old mid × Moves mid new

  -- a part leaves its sheet, and what its session leaves
  abbrev pub Closes : SessionPart N → Sheet → List Stub → Type 0
  Closes part sheet stubs = (sheet ≡ part.sheet) × ClosesBy part.session stubs

  abbrev pub ClosesOne : SessionPart N → List Stub → List Sheet → List Stub → List Sheet → Type 0
  ClosesOne part stubs sheets stubs' sheets' =
      (sheet : Sheet) × (own : List Stub) × (sheets' ≡ sheets ++ sheet ∷ []) × (stubs' ≡ stubs ++ own) × Closes part sheet own

  -- so many rounds, and then the sessions are closed
  abbrev pub PlaysOut : ℕ → List (SessionPart N) → List Sheet → List Stub → Type 0
  PlaysOut rounds parts sheets stubs = (last : List (SessionPart N)) × AllZip (MovesIn rounds) parts last × AllCut Closes last sheets stubs

-- ---- what is left

-- a session was opened, called with all its commands and closed, if there are any; these are its receipts
pub record Attended (t s : ℕ) (commands : List (List ℕ)) (receipts : List Receipt) (sheet : Sheet) : Type 0 where
  pub exchanges : List Exchange
  pub commands_are : commands ≡ commands_in exchanges
  pub tenant_is : sheet.tenant ≡ t
  pub number_is : sheet.number ≡ s
  pub text_is : sheet.text ≡ session_text t s exchanges
  pub full_is : sheet.is_full ≡ any_lacks exchanges
  pub unopened : commands ≡ [] → receipts ≡ []
  pub opened : (commands ≡ [] → ⊥) → (stub : Stub) × Leaves t s exchanges stub × IsInOrder stub.receipts.items × (stub.receipts.items ≡ receipts)

-- the session of the rank k was, where these are the receipts of each rank
abbrev pub AttendedAt : (ℕ → List Receipt) → ℕ → Vec (Vec ℕ Global) Global → Sheet → Type 0
AttendedAt receipts k row sheet = Attended (tenant_at k) (session_at k) (lines_of row.items) (receipts k) sheet

-- each session was, in the order of ranks
abbrev pub AreAttended : List (Vec (Vec ℕ Global) Global) → List Sheet → List Stub → Type 0
AreAttended rows sheets stubs = AllFrom (AttendedAt (λ k. gathered (tenant_at k) (session_at k) stubs)) 0 rows sheets
