-- Promise: what becomes of one session: it is opened, called with its commands one after another, and closed.
use Rattle.std.specs.Prelude.{◌≡◌, ◌≤◌, ℕ, Bool, true, false, List, [], ◌∷◌, map, flat_map, decimal, Option, Some, None, Result, Ok, Err}
use Rattle.std.specs.List.{AllByRecursion, list_any}
use Rattle.sb_value.specs.declared.refusal.Refusal.TheVariants as refusal
use Rattle.sb_tenant.specs.declared.reply.Answer.{Answer}
use Rattle.sb_tenant.specs.declared.reply.Reply.TheVariants as told
use Rattle.sb_tenant.specs.Limits.{trail_limit}
use Rattle.sb_wire.specs.Output.{prefixed}
use Rattle.sb_wire.specs.ReplyText.{reply_lines, words}
use Rattle.sb_wire.specs.Seen.{refusal_line}
use Rattle.sb_wire.specs.declared.refusal.WireRefusal.TheVariants as wire
use Rattle.sb_desk.specs.declared.desk.CallError.{CallError}
use Rattle.sb_desk.specs.declared.desk.CallError.TheVariants as call
use Rattle.sb_desk.specs.declared.receipts.Receipt.{Receipt}
use Rattle.sb_desk.specs.Receipts.{newcomer}
use Rattle.sb_desk.specs.Calls.{Calls, Session, shown}
use Rattle.sb_desk.specs.Stubs.{LeavesStub}
use Rattle.sb_desk.specs.declared.stub.Stub.{Stub}

-- a command, and what its call was answered
pub record Exchange : Type 0 where
  pub command : List ℕ
  pub given : Result Answer CallError

-- the lines that tell it: behind an `end` no session is open
abbrev pub told_lines : Result Answer CallError → List (List ℕ)
told_lines (Ok answer) = reply_lines answer.reply
told_lines (Err call.NotBegun) = refusal_line wire.NotBegun ∷ []
told_lines (Err call.Ended) = reply_lines (told.No refusal.NotOpen)

-- with the numbers of the tenant and the session in front
abbrev pub told_text : ℕ → ℕ → Result Answer CallError → List ℕ
told_text t s given = prefixed (words (decimal t ∷ decimal s ∷ [])) (told_lines given)

-- each is one call of the session
abbrev pub Plays : Session → List Exchange → Session → Type 0
Plays old [] new = new ≡ old
Plays old (e ∷ es) new = (mid : Session) × Calls old e.command e.given mid × Plays mid es new

abbrev pub commands_in : List Exchange → List (List ℕ)
commands_in es = map (λ e. e.command) es

-- the text of session s of tenant t
abbrev pub session_text : ℕ → ℕ → List Exchange → List ℕ
session_text t s es = flat_map (λ e. told_text t s e.given) es

abbrev pub is_absent : Option ℕ → Bool
is_absent None = true
is_absent (Some n) = false

-- an answer without a number: no entry was made
abbrev pub lacks_number : Result Answer CallError → Bool
lacks_number (Ok answer) = is_absent answer.number
lacks_number (Err e) = false

abbrev pub any_lacks : List Exchange → Bool
any_lacks es = list_any (λ e. lacks_number e.given) es

-- that comes only where the trail, of this length, is full
abbrev pub AllFullBy : ℕ → List Exchange → Type 0
AllFullBy length es = AllByRecursion (λ e. lacks_number e.given ≡ true → trail_limit ≤ length) es

-- the session of these commands leaves this stub
pub record Leaves (t s : ℕ) (exchanges : List Exchange) (stub : Stub) : Type 0 where
  pub opening : ℕ
  pub last : Session
  pub plays : Plays (shown (newcomer t s opening)) exchanges last
  pub stub_is : LeavesStub last stub

-- a session without a command isn't opened; any other leaves receipts that are its entries, in their order, in a trail of this length
pub record Attends (t s : ℕ) (commands : List (List ℕ)) (entries : List Receipt) (trail : ℕ) (text : List ℕ) : Type 0 where
  pub exchanges : List Exchange
  pub commands_are : commands ≡ commands_in exchanges
  pub text_is : text ≡ session_text t s exchanges
  pub full : AllFullBy trail exchanges
  pub unopened : commands ≡ [] → entries ≡ []
  pub opened : (commands ≡ [] → ⊥) → (stub : Stub) × Leaves t s exchanges stub × (stub.receipts.items ≡ entries)
