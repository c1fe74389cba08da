-- A caller's session: a call of it, and what it leaves.
use Rattle.std.proofs.Common.{◌≡◌, ◌∙◌, sym, ap, subst, refl, ℕ, Bool, true, false, List, [], ◌∷◌, ◌++◌, append_assoc, append-nil, Option, Some, None}
use Rattle.std.specs.Prelude.{flat_map, IfErr, OnOk, Result, Ok, Err}
use Rattle.std.proofs.lemmas.Grind.{flat_map-append}
use Rattle.sb_tenant.specs.declared.reply.Answer.{Answer}
use Rattle.sb_tenant.specs.Closing.{closes}
use Rattle.sb_desk.specs.declared.receipts.Receipt.{Receipt}
use Rattle.sb_desk.specs.declared.stub.Stub.{Stub}
use Rattle.sb_desk.specs.declared.desk.CallError.{CallError}
use Rattle.sb_desk.specs.Calls.{AnswersOnce, Session, is_ended}
use Rattle.sb_desk.specs.Receipts.{list_after, list_by, receipt}
use Rattle.sb_desk.specs.Stubs.{LeavesStub}
use Rattle.sb_connection.specs.Callers.{Caller, CallsOnce, IsOpened, LeavesList, Life, Stay, Suspends, behind_first, but_last, calls_by, calls_of, caller_between, caller_in, ending_receipt, life_after, life_between, life_of, opening_receipt}
use Rattle.sb_connection.proofs.Volumes.{but-last}

abbrev life : ℕ → ℕ → List Receipt → Bool → Bool → Life
life t s calls ended has = record { tenant = t; session = s; calls = calls; ended = ended; has_transaction = has }

-- the receipts behind the first one, and one more
calls-after : (front : List Receipt) (s : Session) (opened : IsOpened s) (line : List ℕ) (answer : Answer) → front ++ behind_first (list_after s.list line answer) ≡ list_after (front ++ behind_first s.list) line answer
calls-after front s opened line answer = by answer.number
  where
    by : (n : Option ℕ) → front ++ behind_first (list_by n s.list line answer) ≡ list_by n (front ++ behind_first s.list) line answer
    by None = refl
    by (Some n) =
        ap (λ (l : List Receipt). front ++ behind_first (l ++ receipt line answer ∷ [])) opened.list
        ∙ sym (append_assoc front opened.behind (receipt line answer ∷ []))
        ∙ ap (λ (l : List Receipt). (front ++ behind_first l) ++ receipt line answer ∷ []) (sym opened.list)

pub still_opened : (s new : Session) (line : List ℕ) → IsOpened s → AnswersOnce s line new → IsOpened new
still_opened s new line opened (answer, going, numbered, is, behind) = by answer.number (ap (λ (x : Session). x.list) is)
  where
    by : (n : Option ℕ) → new.list ≡ list_by n s.list line answer → IsOpened new
    by None same = record { opening = opened.opening; behind = opened.behind; list = same ∙ opened.list }
    by (Some n) more = record { opening = opened.opening; behind = opened.behind ++ receipt line answer ∷ []; list = more ∙ ap (λ (l : List Receipt). l ++ receipt line answer ∷ []) opened.list }

-- a call of the session is one of the caller
pub calls_once : (stays : List Stay) (s new : Session) (line : List ℕ) → IsOpened s → AnswersOnce s line new → CallsOnce (caller_in stays s) line (caller_in stays new)
calls_once stays s new line opened (answer, going, numbered, is, behind) = (answer, going, numbered, told, behind)
  where
    told : caller_in stays new ≡ record (caller_in stays s) { life = life_after (life_of stays s) line answer new.has_transaction; list = list_after s.list line answer; last = Some answer }
    told =
        ap (λ (x : Session). caller_in stays x) is
        ∙ ap (λ (l : List Receipt). record { life = life s.tenant s.session l (closes line answer.reply) new.has_transaction; stays = stays; list = list_after s.list line answer; waits = false; last = Some answer })
        (calls-after (flat_map calls_of stays) s opened line answer)

-- what it leaves when it leaves a volume
module _ (stays : List Stay) (s : Session) (stub : Stub) (opened : IsOpened s) (left : LeavesStub s stub) where
  pub leaves_list : LeavesList (caller_in stays s) stub
  leaves_list = record {
    there = record { opening = opened.opening; behind = opened.behind; list = opened.list; calls = ap (λ (l : List Receipt). flat_map calls_of stays ++ behind_first l) opened.list };
    tenant = left.0;
    session = left.1;
    ended = left.2;
    closed = left.3;
  }

  these_calls : (b : Bool) → s.ended ≡ b → calls_of (stub.receipts.items, b) ≡ behind_first s.list
  these_calls true ended = ap behind_first (left.2 ended)
  these_calls false going =
      ap (λ (l : List Receipt). but_last (behind_first l)) ((left.3 going).1 ∙ ap (λ (l : List Receipt). l ++ ending_receipt (left.3 going).0 ∷ []) opened.list)
      ∙ but-last opened.behind (ending_receipt (left.3 going).0) ∙ ap behind_first (sym opened.list)

  all_calls : flat_map calls_of (stays ++ (stub.receipts.items, s.ended) ∷ []) ≡ flat_map calls_of stays ++ behind_first s.list
  all_calls =
      flat_map-append calls_of stays ((stub.receipts.items, s.ended) ∷ [])
      ∙ ap (λ (l : List Receipt). flat_map calls_of stays ++ l) (append-nil (calls_of (stub.receipts.items, s.ended)) ∙ these_calls s.ended refl)

  lives_on : s.has_transaction ≡ false → life_between (stays ++ (stub.receipts.items, s.ended) ∷ []) stub.tenant stub.session s.ended ≡ life_of stays s
  lives_on at_rest =
      ap (λ (t : ℕ). life t stub.session (flat_map calls_of (stays ++ (stub.receipts.items, s.ended) ∷ [])) s.ended false) left.0
      ∙ ap (λ (n : ℕ). life s.tenant n (flat_map calls_of (stays ++ (stub.receipts.items, s.ended) ∷ [])) s.ended false) left.1
      ∙ ap (λ (l : List Receipt). life s.tenant s.session l s.ended false) all_calls
      ∙ ap (λ (b : Bool). life s.tenant s.session (flat_map calls_of stays ++ behind_first s.list) s.ended b) (sym at_rest)

  suspends_here : s.has_transaction ≡ false → Suspends (caller_in stays s) stub (caller_between (stays ++ (stub.receipts.items, s.ended) ∷ []) stub.tenant stub.session s.ended)
  suspends_here at_rest = record {
    was_there = refl;
    at_rest = at_rest;
    leaves = leaves_list;
    new_is = ap (λ (l : Life). record { life = l; stays = stays ++ (stub.receipts.items, s.ended) ∷ []; list = []; waits = true; last = None }) (lives_on at_rest);
  }

  pub suspends : (old : Caller) (ended : Bool) → caller_in stays s ≡ old → old.life.has_transaction ≡ false → ended ≡ old.life.ended
      → Suspends old stub (caller_between (stays ++ (stub.receipts.items, ended) ∷ []) stub.tenant stub.session ended)
  suspends old ended is at_rest same =
      let so : s.ended ≡ ended = ap (λ (c : Caller). c.life.ended) is ∙ sym same in
      subst (λ (b : Bool). Suspends old stub (caller_between (stays ++ (stub.receipts.items, b) ∷ []) stub.tenant stub.session b)) so
      (subst (λ (c : Caller). Suspends c stub (caller_between (stays ++ (stub.receipts.items, s.ended) ∷ []) stub.tenant stub.session s.ended)) is
      (suspends_here (ap (λ (c : Caller). c.life.has_transaction) is ∙ at_rest)))

-- ---- behind a call

pub opened_after : (r : Result (Unit {0}) CallError) (s new : Session) (line : List ℕ) → IsOpened s → OnOk r (AnswersOnce s line new) → IfErr r (λ e. (new ≡ s) × (s.ended ≡ is_ended e)) → IsOpened new
opened_after (Ok x) s new line opened ok err = still_opened s new line opened ok
opened_after (Err e) s new line opened ok err = subst IsOpened (sym err.0) opened

pub called : (r : Result (Unit {0}) CallError) (stays : List Stay) (s new : Session) (line : List ℕ) (old : Caller) → caller_in stays s ≡ old → IsOpened s → OnOk r (AnswersOnce s line new) → OnOk r (CallsOnce old line (caller_in stays new))
called (Ok x) stays s new line old is opened ok = subst (λ (c : Caller). CallsOnce c line (caller_in stays new)) is (calls_once stays s new line opened ok)
called (Err e) stays s new line old is opened ok = tt
