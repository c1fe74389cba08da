-- Promise: the lines that a session is called with, what answers each, and the receipts that these give.
use Rattle.std.specs.Prelude.{◌≡◌, ⊤, ℕ, Bool, true, false, List, [], ◌∷◌, ◌++◌, flat_map, codes}
use Rattle.std.specs.List.{list_any}
use Rattle.sb_tenant.specs.declared.reply.Answer.{Answer}
use Rattle.sb_tenant.specs.declared.reply.Reply.TheVariants as told
use Rattle.sb_tenant.specs.Closing.{closes}
use Rattle.sb_wire.specs.Lines.{Piece}
use Rattle.sb_wire.specs.Lines as lines
use Rattle.sb_wire.specs.Output.{ended_lines}
use Rattle.sb_wire.specs.ReplyText.{reply_lines}
use Rattle.sb_wire.specs.Seen.{refusal_line}
use Rattle.sb_wire.specs.declared.refusal.WireRefusal.TheVariants as wire
use Rattle.sb_desk.specs.declared.receipts.Receipt.{Receipt}
use Rattle.sb_desk.specs.Receipts.{list_after, numbered, receipt}
use Rattle.sb_desk.specs.Calls.{IsNumbered}

-- a line that is too long, one whose step isn't begun, or one that has an answer, behind which the session has a transaction or hasn't
pub data Exchange : Type 0 where
  overlong : Exchange
  unbegun : List ℕ → Exchange
  answered : List ℕ → Answer → Bool → Exchange

abbrev pub line_in : Exchange → Piece
line_in overlong = lines.too_long
line_in (unbegun line) = lines.line line
line_in (answered line answer has) = lines.line line

-- ---- what is written

abbrev pub said_lines : Exchange → List (List ℕ)
said_lines overlong = refusal_line wire.TooLong ∷ []
said_lines (unbegun line) = refusal_line wire.NotBegun ∷ []
said_lines (answered line answer has) = reply_lines answer.reply

-- each line of a reply stands alone
abbrev pub said_text : Exchange → List ℕ
said_text e = ended_lines (said_lines e)

-- ---- the transaction

-- whether the session has one behind an exchange: as its call tells; a line that was no step leaves it as it was
abbrev pub transacts_behind : Bool → Exchange → Bool
transacts_behind was overlong = was
transacts_behind was (unbegun line) = was
transacts_behind was (answered line answer has) = has

-- behind one exchange after another
abbrev pub transacts_from : Bool → List Exchange → Bool
transacts_from was [] = was
transacts_from was (e ∷ es) = transacts_from (transacts_behind was e) es

-- behind each of them it has one
abbrev pub AreWithin : Bool → List Exchange → Type 0
AreWithin was [] = ⊤
AreWithin was (e ∷ es) = (transacts_behind was e ≡ true) × AreWithin (transacts_behind was e) es

-- ---- the end

-- an `end` that is answered `ok`
abbrev pub ends : Exchange → Bool
ends (answered line answer has) = closes line answer.reply
ends e = false

abbrev pub has_ended : List Exchange → Bool
has_ended es = list_any ends es

-- an answer has no number exactly where it says that the trail is full
abbrev pub IsCall : Exchange → Type 0
IsCall (answered line answer has) = IsNumbered answer
IsCall e = ⊤

-- the calls of one session: none comes behind its end
abbrev pub AreCalls : List Exchange → Type 0
AreCalls [] = ⊤
AreCalls (e ∷ es) = IsCall e × (ends e ≡ true → es ≡ []) × AreCalls es

-- ---- what is left

-- an answer with a number has a receipt
abbrev pub receipt_of : Exchange → List Receipt
receipt_of (answered line answer has) = list_after [] line answer
receipt_of e = []

abbrev pub receipts_of : List Exchange → List Receipt
receipts_of es = flat_map receipt_of es

-- that of the `end` which closes the session, unless it has ended
abbrev pub closing_receipts : Bool → ℕ → List Receipt
closing_receipts true n = []
closing_receipts false n = receipt (codes "end") (numbered n told.Ok) ∷ []

-- a session was opened, called with these lines, and closed
pub record AreReceipts (exchanges : List Exchange) (receipts : List Receipt) : Type 0 where
  pub opening : ℕ
  pub closing : ℕ
  pub are : receipts ≡ receipt (codes "open") (numbered opening told.Ok) ∷ (receipts_of exchanges ++ closing_receipts (has_ended exchanges) closing)

-- The exchanges of a session, cut where its tenant's trail was renewed: it was opened in each volume, called with the lines there, and closed, and
-- left these receipts.
abbrev pub AreVolumes : List Exchange → List (List Receipt) → Type 0
AreVolumes es [] = es ≡ []
AreVolumes es (receipts ∷ more) = (now behind : List Exchange) × (es ≡ now ++ behind) × AreReceipts now receipts × AreVolumes behind more

-- the last receipt is an `end` that was answered `ok`
pub record IsClosed (receipts : List Receipt) : Type 0 where
  pub others : List Receipt
  pub last : Receipt
  pub are : receipts ≡ others ++ last ∷ []
  pub ends : closes last.line last.answer.reply ≡ true
