-- The lines of a file, as calls of a session.
use Rattle.std.proofs.Common.{◌≡◌, ◌∙◌, ◌+◌, ℕ, zero, suc, false, List, [], ◌∷◌, ◌++◌, append_assoc, append-nil, Option, Some, None, Ok, codes, refl, sym, ap, subst, arith}
use Rattle.std.proofs.lemmas.List.{map-append}
use Rattle.std.proofs.lemmas.List.Elements.{All-append, All-cons, All-nil}
use Rattle.std.specs.Prelude.{IfSome, ⊤, option_to_list}
use Rattle.sb_tenant.specs.declared.reply.Answer.{Answer}
use Rattle.sb_tenant.specs.declared.reply.Reply.TheVariants as told
use Rattle.sb_host.specs.Desk.{AnswersOnce, Calls, IsNumbered, LeavesStub, Receipt, Session, Stub, list_by, newcomer, numbered, receipt, shown}
use Rattle.sb_backup.specs.Calls.{AreTakenBy, IsPlayedIn, LeaveAll, LeavesFor, TakesCall, TakesCalls}
use Rattle.sb_backup.specs.LoadedCells.{IsTaken, TakesEach}

-- ---- one line

-- a step's answer is the last one then
pub own_call : (old new : Session) (own : List ℕ) (found : Answer) → AnswersOnce old own new → new.last ≡ Some found → Calls old own (Ok found) new
own_call old new own found (answer, going, is_numbered, is, behind) left =
    subst (λ (o : Option Answer). IfSome o (λ (a : Answer). Calls old own (Ok a) new)) (sym (ap (λ (s : Session). s.last) is) ∙ left) (going, is_numbered, is, behind)

abbrev is_there : Option Answer → Type 0
is_there (Some answer) = ⊤
is_there None = ⊥

pub has_answer : (old new : Session) (own : List ℕ) → AnswersOnce old own new → new.last ≡ None → ⊥
has_answer old new own (answer, going, is_numbered, is, behind) left = subst is_there (sym (ap (λ (s : Session). s.last) is) ∙ left) tt

-- an answer that is taken has a number, and so a receipt
has_receipt : (answer : Answer) (list : List Receipt) (own : List ℕ) → IsTaken answer.reply → IsNumbered answer → (n : Option ℕ) → answer.number ≡ n
    → list_by n list own answer ≡ list ++ receipt own answer ∷ []
has_receipt answer list own taken is_numbered (Some n) is = refl
has_receipt answer list own taken is_numbered None is = absurd (subst IsTaken (is_numbered.0 is) taken)

one_taken : (own : List ℕ) (answer : Answer) → IsTaken answer.reply → AreTakenBy (own ∷ []) (receipt own answer ∷ [])
one_taken own answer taken = record {
  lines_are = refl;
  taken = All-cons (λ (r : Receipt). IsTaken r.answer.reply) (receipt own answer) [] taken (All-nil (λ (r : Receipt). IsTaken r.answer.reply));
}

one_called : (old new : Session) (own : List ℕ) → TakesCall old own new → TakesCalls (own ∷ []) old new
one_called old new own (answer, taken, (going, is_numbered, is, behind)) = record {
  tenant = ap (λ (s : Session). s.tenant) is;
  session = ap (λ (s : Session). s.session) is;
  receipts = receipt own answer ∷ [];
  list = ap (λ (s : Session). s.list) is ∙ has_receipt answer old.list own taken is_numbered answer.number refl;
  are_taken = one_taken own answer taken;
}

-- ---- lines one after another

none_called : (s : Session) → TakesCalls [] s s
none_called s = record {
  tenant = refl;
  session = refl;
  receipts = [];
  list = sym (append-nil s.list);
  are_taken = record { lines_are = refl; taken = All-nil (λ (r : Receipt). IsTaken r.answer.reply) };
}

both_called : (old mid new : Session) (one two : List (List ℕ)) → TakesCalls one old mid → TakesCalls two mid new → TakesCalls (one ++ two) old new
both_called old mid new one two first second = record {
  tenant = second.tenant ∙ first.tenant;
  session = second.session ∙ first.session;
  receipts = first.receipts ++ second.receipts;
  list = second.list ∙ ap (λ (l : List Receipt). l ++ second.receipts) first.list ∙ append_assoc old.list first.receipts second.receipts;
  are_taken = record {
    lines_are = map-append (λ (r : Receipt). r.line) first.receipts second.receipts ∙ (λ i. first.are_taken.lines_are i ++ second.are_taken.lines_are i);
    taken = All-append (λ (r : Receipt). IsTaken r.answer.reply) first.receipts second.receipts first.are_taken.taken second.are_taken.taken;
  };
}

-- lines that are taken one after another, by something of which a session is seen
pub each_called : {S : Type 0} (seen : S → Session) (lines : List (List ℕ)) (old new : S) → TakesEach (λ s own t. TakesCall (seen s) own (seen t)) lines old new
    → TakesCalls lines (seen old) (seen new)
each_called seen [] old new same = subst (λ s. TakesCalls [] (seen old) (seen s)) (sym same) (none_called (seen old))
each_called seen (own ∷ more) old new (mid, taken, behind) =
    both_called (seen old) (seen mid) (seen new) (own ∷ []) more (one_called (seen old) (seen mid) own taken) (each_called seen more mid new behind)

-- ---- a closed session

pub closed_played : (t n : ℕ) (old new : Session) (lines : List (List ℕ)) (stub : Stub) → old ≡ shown (newcomer t 0 n) → TakesCalls lines old new → new.ended ≡ false
    → LeavesStub new stub → IsPlayedIn t lines stub
closed_played t n old new lines stub opened calls going leaves =
    let left = leaves.3 going in
    let opening = receipt (codes "open") (numbered n told.Ok) in
    let last = receipt (codes "end") (numbered left.0 told.Ok) in
    record {
      tenant = leaves.0 ∙ calls.tenant ∙ ap (λ (s : Session). s.tenant) opened;
      session = leaves.1 ∙ calls.session ∙ ap (λ (s : Session). s.session) opened;
      first = n;
      receipts = calls.receipts;
      last = left.0;
      list = left.1 ∙ ap (λ (l : List Receipt). l ++ last ∷ []) calls.list ∙ ap (λ (s : Session). (s.list ++ calls.receipts) ++ last ∷ []) opened;
      are_taken = calls.are_taken;
    }

-- ---- all tenants

-- one more tenant
pub one_more : (files : ℕ → Option (Option (List ℕ))) (k : ℕ) (before after : List Stub) (own : Option Stub) → LeaveAll files k before → LeavesFor k (files k) own
    → after ≡ before ++ option_to_list own → LeaveAll files (k + 1) after
one_more files k before after own so_far leaves is =
    let next : suc k ≡ k + 1 = omega arith in
    subst (λ (n : ℕ). LeaveAll files n after) next (before, own, so_far, leaves, is)

-- where nothing is known of any file, none may have been played
pub none_played : (n : ℕ) → LeaveAll (λ t. None) n []
none_played zero = refl
none_played (suc n) = ([], None, none_played n, tt, refl)
