-- To whom a session is opened, and how many lines stand before it.
use Rattle.std.proofs.Common.{◌≡◌, ◌∙◌, ◌⊎◌, sym, ap, subst, refl, inl, inr, ℕ, Bool, true, false, List, [], ◌∷◌, Option, Some, None}
use Rattle.std.specs.Prelude.{is_some}
use Rattle.std.proofs.lemmas.Bool.{false≢true}
use Rattle.sb_wire.specs.Lines.{Piece, last_piece, line, too_long}
use Rattle.sb_wire.specs.Responses.{AreAnswered}
use Rattle.sb_connection.specs.Callers.{Life}
use Rattle.sb_connection.specs.Admission.{BringsKey, LetsIn}
use Rattle.sb_connection.specs.Conversation.{Hosted}
use Rattle.sb_connection.specs.History.{History, SameStreams}
use Rattle.sb_connection.specs.Policies.{Admits}
use Rattle.sb_connection.specs.Responses.{Greets, Responds, RespondsBy, State, over}
use Rattle.sb_connection.specs.Routes.{Begins}
use Rattle.sb_connection.proofs.Whole.{turned}

pub none_from : {X : Type 0} (o : Option X) → is_some o ≡ false → o ≡ None
none_from None e = refl
none_from (Some x) e = absurd (false≢true (sym e))

pub some_from : {X : Type 0} (o : Option X) → is_some o ≡ true → (x : X) × (o ≡ Some x)
some_from None e = absurd (false≢true e)
some_from (Some x) e = (x, refl)

module _ (admits : Admits) (hosted : Hosted) where
  -- ---- a session stays

  keeps : (s : Option Life) (p : Piece) (text : List ℕ) (new : State) → RespondsBy admits hosted s p text new → is_some s ≡ true → is_some new.0 ≡ true
  keeps None p text new responds has = absurd (false≢true has)
  keeps (Some s) p text new (e, after, own_line, said, exchange, now) has = ap is_some now

  pub keeps_session : (old : State) (p : Piece) (text : List ℕ) (new : State) → Responds admits hosted old p text new → is_some old.0 ≡ true → is_some new.0 ≡ true
  keeps_session old p text new responds has = keeps old.0 p text new responds has

  pub all_keep_session : (old : State) (ps : List Piece) (text : List ℕ) (new : State) → AreAnswered (Responds admits hosted) over old ps text new → is_some old.0 ≡ true → is_some new.0 ≡ true
  all_keep_session old [] text new (none, same) has = ap (λ (x : State). is_some x.0) same ∙ has
  all_keep_session old (p ∷ ps) text new (first, rest, mid, is, going, own, later) has = all_keep_session mid ps rest new later (keeps_session old p first mid own has)

  -- ---- no line is answered before a session is opened

  abbrev Answered : State → List Piece → List ℕ → State → Type 0
  Answered old ps text new = AreAnswered (Responds admits hosted) over old ps text new

  -- a session stays
  stays : (ps : List Piece) (s : Life) (away : Bool) (text : List ℕ) (new : State) → Answered (Some s, away) ps text new → new.0 ≡ None → ⊥
  stays [] s away text new (none, same) gone = absurd (let e : Some s ≡ None = ap (λ (x : State). x.0) (sym same) ∙ gone in cc)
  stays (p ∷ ps) s away text new (first, rest, mid, is, going, (e, after, own_line, said, exchange, now), later) gone =
      stays ps after mid.1 rest new (subst (λ (x : Option Life). Answered (x, mid.1) ps rest new) now later) gone

  -- a line that opened none is the last one
  turned_last : (ps : List Piece) (p : Piece) (text rest : List ℕ) (away : Bool) (new : State) → Greets admits hosted p text None away → Answered (None, away) ps rest new → over new ≡ false → ⊥
  turned_last [] p text rest away new greets (none, same) going = false≢true (sym going ∙ ap over same ∙ (turned admits hosted p text away greets).0)
  turned_last (q ∷ qs) p text rest away new greets (first, more, mid, is, still, own, later) going = false≢true (sym still ∙ (turned admits hosted p text away greets).0)

  by_mid : (s : Option Life) (ps : List Piece) (p : Piece) (text rest : List ℕ) (away : Bool) (new : State) → Greets admits hosted p text s away → Answered (s, away) ps rest new → new.0 ≡ None → over new ≡ false → ⊥
  by_mid None ps p text rest away new greets later gone going = turned_last ps p text rest away new greets later going
  by_mid (Some s) ps p text rest away new greets later gone going = stays ps s away rest new later gone

  pub none_before : (ps : List Piece) (text : List ℕ) (new : State) → Answered (None, false) ps text new → new.0 ≡ None → over new ≡ false → ps ≡ []
  none_before [] text new are gone going = refl
  none_before (p ∷ ps) text new (first, rest, mid, is, still, own, later) gone going = absurd (by_mid mid.0 ps p first rest mid.1 new own later gone going)

-- ---- the last line

pub last_cases : (p : Piece) → (last_piece p ≡ []) ⊎ (last_piece p ≡ p ∷ [])
last_cases too_long = inr refl
last_cases (line []) = inl refl
last_cases (line (b ∷ bytes)) = inr refl

-- ---- one step after another

same_key : (admits : Admits) (a b : History) → SameStreams a b → BringsKey admits a → BringsKey admits b
same_key admits a b same brings = record {
  first = brings.first;
  begins = subst (λ (r : List ℕ). Begins r b.at_end brings.first) (sym same.2) (subst (λ (e : Bool). Begins a.received e brings.first) (sym same.1) brings.begins);
  handshake = brings.handshake;
  is = brings.is;
  admitted = brings.admitted;
}

pub lets_then : (admits : Admits) (a b c : History) → SameStreams b c → LetsIn admits a b → LetsIn admits b c → LetsIn admits a c
lets_then admits a b c same first then keyed before after = by b.attached refl
  where
    by : (t : Bool) → b.attached ≡ t → BringsKey admits c
    by true e = same_key admits b c same (first (ap (λ (h : Hosted). h.keyed) (sym same.0) ∙ keyed) before e)
    by false e = then keyed e after
