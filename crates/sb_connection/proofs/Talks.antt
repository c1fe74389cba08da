-- The lines of a connection: what its session is then, and what was written.
use Rattle.std.proofs.Common.{◌≡◌, ◌∙◌, sym, ap, subst, refl, ℕ, Bool, true, false, ◌||◌, List, [], ◌∷◌, ◌++◌, map, append_assoc, append-nil, Option, Some, None}
use Rattle.std.specs.Prelude.{flat_map}
use Rattle.std.proofs.lemmas.Bool.{false≢true}
use Rattle.sb_tenant.specs.declared.reply.Answer.{Answer}
use Rattle.sb_wire.specs.Lines.{Piece}
use Rattle.sb_wire.specs.Responses.{AreAnswered}
use Rattle.sb_desk.specs.declared.receipts.Receipt.{Receipt}
use Rattle.sb_desk.specs.Receipts.{list_after, list_by}
use Rattle.sb_connection.specs.Callers.{Life}
use Rattle.sb_connection.specs.Conversation.{Hosted}
use Rattle.sb_connection.specs.Exchanges.{AreCalls, Exchange, IsCall, answered, ends, has_ended, line_in, overlong, receipt_of, receipts_of, said_text, transacts_behind, transacts_from, unbegun}
use Rattle.sb_connection.specs.Policies.{Admits}
use Rattle.sb_connection.specs.Responses.{Exchanges, Moves, Responds, State, over}

pub by_cases : {A : Type 0} (b : Bool) → (b ≡ true → A) → (b ≡ false → A) → A
by_cases true f g = f refl
by_cases false f g = g refl

-- ---- one exchange

-- a receipt is the last one
list-after : (list : List Receipt) (line : List ℕ) (answer : Answer) → list_after list line answer ≡ list ++ list_after [] line answer
list-after list line answer = by_number answer.number
  where
    by_number : (n : Option ℕ) → list_by n list line answer ≡ list ++ list_by n [] line answer
    by_number (Some n) = refl
    by_number None = sym (append-nil list)

-- what an exchange leaves of a session that was open
pub record MovesOn (old : Life) (e : Exchange) (new : Life) : Type 0 where
  pub tenant : new.tenant ≡ old.tenant
  pub session : new.session ≡ old.session
  pub calls : new.calls ≡ old.calls ++ receipt_of e
  pub ended : new.ended ≡ ends e
  pub is_call : IsCall e

moves : (old : Life) (e : Exchange) (new : Life) → old.ended ≡ false → Moves old e new → MovesOn old e new
moves old overlong new going same = record { tenant = ap (λ (s : Life). s.tenant) same; session = ap (λ (s : Life). s.session) same; calls = ap (λ (s : Life). s.calls) same ∙ sym (append-nil old.calls); ended = ap (λ (s : Life). s.ended) same ∙ going; is_call = tt }
moves old (unbegun line) new going (ended, same) = record { tenant = ap (λ (s : Life). s.tenant) same; session = ap (λ (s : Life). s.session) same; calls = ap (λ (s : Life). s.calls) same ∙ sym (append-nil old.calls); ended = ap (λ (s : Life). s.ended) same ∙ going; is_call = tt }
moves old (answered line answer has) new going (ended, numbered, is, behind) = record {
  tenant = ap (λ (s : Life). s.tenant) is;
  session = ap (λ (s : Life). s.session) is;
  calls = ap (λ (s : Life). s.calls) is ∙ list-after old.calls line answer;
  ended = ap (λ (s : Life). s.ended) is;
  is_call = numbered;
}

-- ---- all exchanges

pub record MovesBy (old : Life) (pieces : List Piece) (text : List ℕ) (state : State) : Type 0 where
  pub exchanges : List Exchange
  pub are_calls : AreCalls exchanges
  pub lines_are : pieces ≡ map line_in exchanges
  pub text_is : text ≡ flat_map said_text exchanges
  pub new : Life
  pub is : state.0 ≡ Some new
  pub tenant : new.tenant ≡ old.tenant
  pub session : new.session ≡ old.session
  pub calls : new.calls ≡ old.calls ++ receipts_of exchanges
  pub ended : new.ended ≡ has_ended exchanges
  pub transacts : new.has_transaction ≡ transacts_from old.has_transaction exchanges

module _ (admits : Admits) (hosted : Hosted) where
  abbrev Answered : State → List Piece → List ℕ → State → Type 0
  Answered old pieces text new = AreAnswered (Responds admits hosted) over old pieces text new

  -- an exchange that ends the session is the last one
  last_call : (s after : Life) (e : Exchange) (away : Bool) (p : Piece) (ps : List Piece) (text first rest : List ℕ) (new : State) → MovesOn s e after → after.has_transaction ≡ transacts_behind s.has_transaction e → p ≡ line_in e → first ≡ said_text e → text ≡ first ++ rest
      → ends e ≡ true → Answered (Some after, away) ps rest new → MovesBy s (p ∷ ps) text new
  last_call s after e away p [] text first rest new one turned line said is ended (none, same) = record {
    exchanges = e ∷ [];
    are_calls = (one.is_call, λ h. refl, tt);
    lines_are = ap (λ (q : Piece). q ∷ []) line;
    text_is = is ∙ ap (λ (t : List ℕ). first ++ t) none ∙ ap (λ (t : List ℕ). t ++ []) said;
    new = after;
    is = ap (λ (x : State). x.0) same;
    tenant = one.tenant;
    session = one.session;
    calls = one.calls ∙ ap (λ (l : List Receipt). s.calls ++ l) (sym (append-nil (receipt_of e)));
    ended = one.ended ∙ ended ∙ sym (ap (λ (b : Bool). b || false) ended);
    transacts = turned;
  }
  last_call s after e away p (q ∷ ps) text first rest new one turned line said is ended (f, r, mid, same, going, own, later) = absurd (false≢true (sym going ∙ one.ended ∙ ended))

  -- any other has others behind it
  more_calls : (s after : Life) (e : Exchange) (p : Piece) (ps : List Piece) (text first rest : List ℕ) (new : State) → MovesOn s e after → after.has_transaction ≡ transacts_behind s.has_transaction e → p ≡ line_in e → first ≡ said_text e → text ≡ first ++ rest
      → ends e ≡ false → MovesBy after ps rest new → MovesBy s (p ∷ ps) text new
  more_calls s after e p ps text first rest new one turned line said is going r = record {
    exchanges = e ∷ r.exchanges;
    are_calls = (one.is_call, λ h. absurd (false≢true (sym going ∙ h)), r.are_calls);
    lines_are = ap (λ (q : Piece). q ∷ ps) line ∙ ap (λ (qs : List Piece). line_in e ∷ qs) r.lines_are;
    text_is = is ∙ ap (λ (t : List ℕ). t ++ rest) said ∙ ap (λ (t : List ℕ). said_text e ++ t) r.text_is;
    new = r.new;
    is = r.is;
    tenant = r.tenant ∙ one.tenant;
    session = r.session ∙ one.session;
    calls = r.calls ∙ ap (λ (l : List Receipt). l ++ receipts_of r.exchanges) one.calls ∙ append_assoc s.calls (receipt_of e) (receipts_of r.exchanges);
    ended = r.ended ∙ sym (ap (λ (b : Bool). b || has_ended r.exchanges) going);
    transacts = r.transacts ∙ ap (λ (b : Bool). transacts_from b r.exchanges) turned;
  }

  pub calls : (s : Life) (away : Bool) (pieces : List Piece) (text : List ℕ) (new : State) → s.ended ≡ false → Answered (Some s, away) pieces text new → MovesBy s pieces text new
  calls s away [] text new going (none, same) =
      record { exchanges = []; are_calls = tt; lines_are = refl; text_is = none; new = s; is = ap (λ (x : State). x.0) same; tenant = refl; session = refl; calls = sym (append-nil s.calls); ended = going; transacts = refl }
  calls s away (p ∷ ps) text new going (first, rest, mid, is, still, (e, after, line, said, exchange, now), others) =
      let later : Answered (Some after, mid.1) ps rest new = subst (λ (x : Option Life). Answered (x, mid.1) ps rest new) now others in
      let one = moves s e after going exchange.0 in
      let rec : after.ended ≡ false → MovesBy after ps rest new = λ h. calls after mid.1 ps rest new h later in
      by_cases (ends e) (λ ended. last_call s after e mid.1 p ps text first rest new one exchange.1 line said is ended later) (λ going. more_calls s after e p ps text first rest new one exchange.1 line said is going (rec (one.ended ∙ going)))
