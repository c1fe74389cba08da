-- Promise: what a session knows of its calls. The cell's part of the step is the contract of a desk's calls.
use Rattle.std.specs.Prelude.{ℕ, ◌≡◌, ◌↔◌, ◌<◌, ◌≤◌, Bool, true, false, List, Option, Some, None, Result, Ok, Err}
use Rattle.sb_value.specs.declared.refusal.Refusal.TheVariants.{TrailFull}
use Rattle.sb_tenant.specs.declared.reply.Answer.{Answer}
use Rattle.sb_tenant.specs.declared.reply.Reply.TheVariants.{No}
use Rattle.sb_tenant.specs.Closing.{closes}
use Rattle.sb_tenant.specs.Limits.{session_count}
use Rattle.sb_cell.specs.Tenants.{AnswersEvent, Cell, hosts}
use Rattle.sb_desk.specs.declared.desk.AttachError.{AttachError}
use Rattle.sb_desk.specs.declared.desk.AttachError.TheVariants.{NoTenant, NoSession}
use Rattle.sb_desk.specs.declared.desk.CallError.{CallError}
use Rattle.sb_desk.specs.declared.desk.CallError.TheVariants as call
use Rattle.sb_desk.specs.declared.receipts.Receipt.{Receipt}
use Rattle.sb_desk.specs.Desks.{RefusesRightly, in_transaction}
use Rattle.sb_desk.specs.Receipts.{Receipts, after, after_end, list_after, newcomer}

-- ---- behind a lock

-- an answer has no number exactly where it says that the trail is full
abbrev pub IsNumbered : Answer → Type 0
IsNumbered answer = (answer.number ≡ None) ↔ (answer.reply ≡ No TrailFull)

-- a cell of this tenant answered the session's line so, and the session has a transaction behind that step or hasn't
abbrev pub IsBehind : ℕ → ℕ → List ℕ → Answer → Bool → Type 0
IsBehind t s line answer has = (c c' : Cell) × AnswersEvent c t s line (Ok answer) c' × (in_transaction c' t s ≡ has)

-- one answer to the line that was ready
abbrev pub Called : Receipts → Receipts → Type 0
Called r r' =
    (line : List ℕ) × (answer : Answer) × (r.ended ≡ false) × (r.ready ≡ Some line) × IsNumbered answer
    × (r' ≡ after r line answer r'.has_transaction) × IsBehind r.tenant r.session line answer r'.has_transaction

abbrev pub is_ended : CallError → Bool
is_ended call.Ended = true
is_ended call.NotBegun = false

-- a refusal changes nothing, and says whether the session has ended
abbrev pub Refused : Receipts → CallError → Receipts → Type 0
Refused r e r' = (r' ≡ r) × (r.ended ≡ is_ended e)

-- with the `end`, unless it had ended
abbrev pub Left : Receipts → Receipts → Type 0
Left r r' = (r.ended ≡ true → r' ≡ r) × (r.ended ≡ false → (n : ℕ) × (r' ≡ after_end r n))

abbrev pub IsNewcomer : ℕ → ℕ → Receipts → Type 0
IsNewcomer t s r = (n : ℕ) × (r ≡ newcomer t s n)

-- behind a lock a session isn't opened for the reason that a cell of its tenant shows: it is open, the trail is full, or the step wasn't begun
abbrev pub IsRefused : ℕ → ℕ → AttachError → Type 0
IsRefused t s e = (c c' : Cell) × (hosts c t ≡ true) × RefusesRightly c t s e c'

-- ---- a session

-- what a clause sees of it
pub record Session : Type 0 where
  pub tenant : ℕ
  pub session : ℕ
  pub list : List Receipt
  pub ended : Bool
  pub has_transaction : Bool
  pub last : Option Answer

abbrev pub shown : Receipts → Session
shown r = record { tenant = r.tenant; session = r.session; list = r.list; ended = r.ended; has_transaction = r.has_transaction; last = r.last }

-- the receipts before, followed by one with this line where the answer has a number; and whether it has a transaction then
abbrev pub after_call : Session → List ℕ → Answer → Bool → Session
after_call s line answer has = record s { list = list_after s.list line answer; ended = closes line answer.reply; has_transaction = has; last = Some answer }

-- of a session that hasn't ended, one answer
abbrev pub AnswersOnce : Session → List ℕ → Session → Type 0
AnswersOnce old line new =
    (answer : Answer) × (old.ended ≡ false) × IsNumbered answer × (new ≡ after_call old line answer new.has_transaction)
    × IsBehind old.tenant old.session line answer new.has_transaction

-- of a session that hasn't ended, one answer; or a refusal, which says whether it has
abbrev pub Calls : Session → List ℕ → Result Answer CallError → Session → Type 0
Calls old line (Ok answer) new =
    (old.ended ≡ false) × IsNumbered answer × (new ≡ after_call old line answer new.has_transaction) × IsBehind old.tenant old.session line answer new.has_transaction
Calls old line (Err e) new = (old.ended ≡ is_ended e) × (new ≡ old)

-- a new session; or a refusal: the numbers are looked at first, then the tenant's cell
abbrev pub Attached : ℕ → ℕ → ℕ → Result Session AttachError → Type 0
Attached tenants t s (Ok new) = (t < tenants) × (s < session_count) × ((n : ℕ) × (new ≡ shown (newcomer t s n)))
Attached tenants t s (Err NoTenant) = tenants ≤ t
Attached tenants t s (Err NoSession) = (t < tenants) × (session_count ≤ s)
Attached tenants t s (Err e) = (t < tenants) × (s < session_count) × IsRefused t s e
