-- Promise: what a session has of its calls.
use Rattle.std.specs.Prelude.{ℕ, ◌+◌, ◌==◌, Bool, true, false, List, [], ◌∷◌, ◌++◌, if◌then◌else◌, codes, Option, Some, None}
use Rattle.sb_tenant.specs.declared.reply.Answer.{Answer}
use Rattle.sb_tenant.specs.declared.reply.Entry.{Entry}
use Rattle.sb_tenant.specs.declared.reply.Reply.{Reply}
use Rattle.sb_tenant.specs.declared.reply.Reply.TheVariants.{Ok}
use Rattle.sb_tenant.specs.Closing.{closes}
use Rattle.sb_desk.specs.declared.receipts.Receipt.{Receipt}
use Rattle.sb_desk.specs.declared.receipts.Newest.{Newest}
use Rattle.sb_desk.specs.declared.receipts.Newest.TheVariants as newest

-- its receipts, whether it has ended, whether it has a transaction behind its newest step, the line that is ready, and the answer of the newest call that gave one
pub record Receipts : Type 0 where
  pub tenant : ℕ
  pub session : ℕ
  pub list : List Receipt
  pub ended : Bool
  pub has_transaction : Bool
  pub ready : Option (List ℕ)
  pub last : Option Answer

-- ---- a receipt

abbrev pub numbered : ℕ → Reply → Answer
numbered n reply = record { number = Some n; reply = reply }

abbrev pub receipt : List ℕ → Answer → Receipt
receipt line answer = record { line = line; answer = answer }

-- an answer with a number is one more receipt
abbrev pub list_by : Option ℕ → List Receipt → List ℕ → Answer → List Receipt
list_by (Some n) list line answer = list ++ receipt line answer ∷ []
list_by None list line answer = list

abbrev pub list_after : List Receipt → List ℕ → Answer → List Receipt
list_after list line answer = list_by answer.number list line answer

-- ---- after a call

-- of an open session, which has a transaction then or hasn't
abbrev pub after : Receipts → List ℕ → Answer → Bool → Receipts
after r line answer has = record r {
  list = list_after r.list line answer;
  ended = closes line answer.reply;
  has_transaction = has;
  ready = None;
  last = Some answer;
}

-- with the `end` that closes the session
abbrev pub after_end : Receipts → ℕ → Receipts
after_end r n = record r {
  list = r.list ++ receipt (codes "end") (numbered n Ok) ∷ [];
  ended = true;
  has_transaction = false;
  ready = None;
  last = Some (numbered n Ok);
}

-- a session that was just opened has the receipt of its `open`, and no call was made
abbrev pub newcomer : ℕ → ℕ → ℕ → Receipts
newcomer tenant session n = record {
  tenant = tenant;
  session = session;
  list = receipt (codes "open") (numbered n Ok) ∷ [];
  ended = false;
  has_transaction = false;
  ready = None;
  last = None;
}

-- a line is ready
abbrev pub prepared : Receipts → List ℕ → Receipts
prepared r line = record r { ready = Some line }

-- ---- how they are kept

-- the answer of the last receipt
abbrev pub last_of : List Receipt → Option Answer
last_of [] = None
last_of (r ∷ []) = Some r.answer
last_of (r ∷ s ∷ rs) = last_of (s ∷ rs)

-- the newest answer is none, that of the last receipt, or one that is no receipt
abbrev pub answer_by : Newest → List Receipt → Option Answer
answer_by newest.Nothing list = None
answer_by newest.Listed list = last_of list
answer_by (newest.Beside answer) list = Some answer

-- ---- the receipts that a trail wants

-- those of the entries of session s, where the first entry has the number n
abbrev pub receipts_of : ℕ → ℕ → List Entry → List Receipt
receipts_of s n [] = []
receipts_of s n (e ∷ es) =
    if e.session == s then receipt e.line (numbered n e.reply) ∷ receipts_of s (n + 1) es else receipts_of s (n + 1) es
