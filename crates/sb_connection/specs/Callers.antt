-- Promise: a session that is called with lines, over the volumes of its tenant's trail.
use Rattle.std.specs.Prelude.{◌≡◌, ℕ, Bool, true, false, List, [], ◌∷◌, ◌++◌, flat_map, codes, Option, Some, None}
use Rattle.sb_tenant.specs.declared.reply.Answer.{Answer}
use Rattle.sb_tenant.specs.declared.reply.Reply.TheVariants as told
use Rattle.sb_tenant.specs.Closing.{closes}
use Rattle.sb_desk.specs.declared.receipts.Receipt.{Receipt}
use Rattle.sb_desk.specs.declared.stub.Stub.{Stub}
use Rattle.sb_desk.specs.Calls.{IsBehind, IsNumbered, Session, shown}
use Rattle.sb_desk.specs.Receipts.{list_after, newcomer, numbered, receipt}
use Rattle.sb_connection.specs.declared.caller.Absence.{Absence}

-- what its calls have made of it, in whatever volumes they stand: their receipts, whether it has ended, and whether it has a transaction
pub record Life : Type 0 where
  pub tenant : ℕ
  pub session : ℕ
  pub calls : List Receipt
  pub ended : Bool
  pub has_transaction : Bool

-- what stands behind the first one
abbrev pub behind_first : List Receipt → List Receipt
behind_first [] = []
behind_first (r ∷ rs) = rs

-- all but the last one
abbrev pub but_last : List Receipt → List Receipt
but_last [] = []
but_last (r ∷ []) = []
but_last (r ∷ (s ∷ rs)) = r ∷ but_last (s ∷ rs)

-- the receipt of an `open`, and that of an `end`
abbrev pub opening_receipt : ℕ → Receipt
opening_receipt n = receipt (codes "open") (numbered n told.Ok)

abbrev pub ending_receipt : ℕ → Receipt
ending_receipt n = receipt (codes "end") (numbered n told.Ok)

-- What a session left in a volume that was ended, and whether a call had ended the session: then no `end` was made for it.
abbrev pub Stay : Type 0
Stay = List Receipt × Bool

-- the receipts of its calls there
abbrev pub calls_by : Bool → List Receipt → List Receipt
calls_by true list = list
calls_by false list = but_last list

abbrev pub calls_of : Stay → List Receipt
calls_of stay = calls_by stay.1 (behind_first stay.0)

-- a session in one volume
abbrev pub life_of : List Stay → Session → Life
life_of stays s = record {
  tenant = s.tenant;
  session = s.session;
  calls = flat_map calls_of stays ++ behind_first s.list;
  ended = s.ended;
  has_transaction = s.has_transaction;
}

-- between two volumes
abbrev pub life_between : List Stay → ℕ → ℕ → Bool → Life
life_between stays tenant session ended =
    record { tenant = tenant; session = session; calls = flat_map calls_of stays; ended = ended; has_transaction = false }

-- with one more call
abbrev pub life_after : Life → List ℕ → Answer → Bool → Life
life_after life line answer has =
    record life { calls = list_after life.calls line answer; ended = closes line answer.reply; has_transaction = has }

-- What is known of it: its life; what it left in volumes that were ended; its receipts in the volume that goes on, none while it waits for the next
-- one; and the answer of the newest call in it.
pub record Caller : Type 0 where
  pub life : Life
  pub stays : List Stay
  pub list : List Receipt
  pub waits : Bool
  pub last : Option Answer

abbrev pub caller_in : List Stay → Session → Caller
caller_in stays s = record { life = life_of stays s; stays = stays; list = s.list; waits = false; last = s.last }

abbrev pub caller_between : List Stay → ℕ → ℕ → Bool → Caller
caller_between stays tenant session ended = record { life = life_between stays tenant session ended; stays = stays; list = []; waits = true; last = None }

-- where it is: in a volume, or else between two
abbrev pub caller_by : List Stay → Option Session → Absence → Caller
caller_by stays (Some s) a = caller_in stays s
caller_by stays None a = caller_between stays a.tenant a.session a.ended

-- a session of these numbers that was just opened
abbrev pub IsNewcomer : ℕ → ℕ → Session → Type 0
IsNewcomer t s o = (n : ℕ) × (o ≡ shown (newcomer t s n))

-- its receipts begin with that of its `open`
pub record IsOpened (s : Session) : Type 0 where
  pub opening : ℕ
  pub behind : List Receipt
  pub list : s.list ≡ opening_receipt opening ∷ behind

-- ---- calls

-- of a session that hasn't ended, one answer
abbrev pub CallsOnce : Caller → List ℕ → Caller → Type 0
CallsOnce old line new =
    (answer : Answer) × (old.life.ended ≡ false) × IsNumbered answer
    × (new ≡ record old { life = life_after old.life line answer new.life.has_transaction; list = list_after old.list line answer; last = Some answer })
    × IsBehind old.life.tenant old.life.session line answer new.life.has_transaction

-- ---- volumes

-- its calls are those of the volumes that were ended, and those in the one that goes on
pub record IsThere (c : Caller) : Type 0 where
  pub opening : ℕ
  pub behind : List Receipt
  pub list : c.list ≡ opening_receipt opening ∷ behind
  pub calls : c.life.calls ≡ flat_map calls_of c.stays ++ behind

-- the receipts, with that of the `end` unless the session had ended
pub record LeavesList (c : Caller) (stub : Stub) : Type 0 where
  pub there : IsThere c
  pub tenant : stub.tenant ≡ c.life.tenant
  pub session : stub.session ≡ c.life.session
  pub ended : c.life.ended ≡ true → stub.receipts.items ≡ c.list
  pub closed : c.life.ended ≡ false → (n : ℕ) × (stub.receipts.items ≡ c.list ++ ending_receipt n ∷ [])

-- a session without a transaction leaves the volume, and waits for the next one
pub record Suspends (old : Caller) (stub : Stub) (new : Caller) : Type 0 where
  pub was_there : old.waits ≡ false
  pub at_rest : old.life.has_transaction ≡ false
  pub leaves : LeavesList old stub
  pub new_is : new ≡ record old { stays = old.stays ++ (stub.receipts.items, old.life.ended) ∷ []; list = []; waits = true; last = None }

-- it is in the next one
abbrev pub Resumes : Caller → Session → Caller → Type 0
Resumes old s new = new ≡ record old { list = s.list; waits = false; last = s.last }

-- at its end it leaves its receipts, unless it waits for a volume
abbrev pub LeavesBy : Bool → Caller → Option Stub → Type 0
LeavesBy true c stub = (stub ≡ None) × (c.life.calls ≡ flat_map calls_of c.stays)
LeavesBy false c None = ⊥
LeavesBy false c (Some stub) = LeavesList c stub

abbrev pub LeavesLast : Caller → Option Stub → Type 0
LeavesLast c stub = LeavesBy c.waits c stub
