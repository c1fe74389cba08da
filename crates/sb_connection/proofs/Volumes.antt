-- The volumes that a session left, and the lines that were answered in each.
use Rattle.std.proofs.Common.{◌≡◌, ◌∙◌, sym, ap, subst, refl, ℕ, Bool, true, false, List, [], ◌∷◌, ◌++◌, append_assoc, append-nil, Option, Some, None}
use Rattle.std.specs.Prelude.{flat_map}
use Rattle.std.proofs.lemmas.Bool.{false≢true}
use Rattle.sb_wire.specs.Lines.{Piece}
use Rattle.sb_desk.specs.declared.receipts.Receipt.{Receipt}
use Rattle.sb_desk.specs.declared.stub.Stub.{Stub}
use Rattle.sb_connection.specs.Callers.{Caller, LeavesList, Life, Stay, behind_first, but_last, calls_by, calls_of, ending_receipt, opening_receipt}
use Rattle.sb_connection.specs.Conversation.{Hosted}
use Rattle.sb_connection.specs.Exchanges.{closing_receipts}
use Rattle.sb_connection.specs.Policies.{Admits}
use Rattle.sb_connection.specs.ProtocolState.{AreSaid, AreSaidNow, AreTold, LeavesBehind}
use Rattle.sb_connection.specs.Responses.{Responds, State, over}

-- the last one is taken away
pub but-last : (list : List Receipt) (last : Receipt) → but_last (list ++ last ∷ []) ≡ list
but-last [] last = refl
but-last (r ∷ []) last = refl
but-last (r ∷ (s ∷ rs)) last = ap (λ (l : List Receipt). r ∷ l) (but-last (s ∷ rs) last)

module _ (admits : Admits) (hosted : Hosted) where
  -- some lines, and then others
  pub said_then : (a b c : State) (ps qs : List Piece) (text more : List ℕ) → AreSaid admits hosted a ps text b → AreSaid admits hosted b qs more c → AreSaid admits hosted a (ps ++ qs) (text ++ more) c
  said_then a b c [] qs text more (none, same) others =
      subst (λ (t : List ℕ). AreSaid admits hosted a qs t c) (ap (λ (t : List ℕ). t ++ more) (sym none)) (subst (λ (s : State). AreSaid admits hosted s qs more c) same others)
  said_then a b c (p ∷ ps) qs text more (first, rest, mid, is, going, own, first-others) others =
      (first, rest ++ more, mid, ap (λ (t : List ℕ). t ++ more) is ∙ append_assoc first rest more, going, own, said_then mid b c ps qs rest more first-others others)

  -- whichever volumes they stand in
  said_now : (waiting : Bool) (old : State) (ps : List Piece) (text : List ℕ) (new : State) → AreSaidNow admits hosted waiting old ps text new → AreSaid admits hosted old ps text new
  said_now true old ps text new (none, nothing, same) = subst (λ (qs : List Piece). AreSaid admits hosted old qs text new) (sym none) (nothing, same)
  said_now false old ps text new said = said

  pub all_said : (waiting : Bool) (before : List Receipt) (old : State) (stays : List Stay) (ps : List Piece) (text : List ℕ) (new : State) → AreTold admits hosted waiting before old stays ps text new → AreSaid admits hosted old ps text new
  all_said waiting before old [] ps text new told = said_now waiting old ps text new told
  all_said waiting before old (stay ∷ more) ps text new (now, behind, said, rest, mid, split, cut, own, leaves, last, others) =
      subst (λ (qs : List Piece). AreSaid admits hosted old qs text new) (sym split)
      (subst (λ (t : List ℕ). AreSaid admits hosted old (now ++ behind) t new) (sym cut)
      (said_then old mid new now behind said rest own (all_said waiting (before ++ calls_of stay) mid more behind rest new others)))

  -- more lines
  pub told_then : (before : List Receipt) (old mid new : State) (stays : List Stay) (ps qs : List Piece) (text more : List ℕ) → AreTold admits hosted false before old stays ps text mid → AreSaid admits hosted mid qs more new
      → AreTold admits hosted false before old stays (ps ++ qs) (text ++ more) new
  told_then before old mid new [] ps qs text more told others = said_then old mid new ps qs text more told others
  told_then before old mid new (stay ∷ stays) ps qs text more (now, behind, said, rest, at, split, cut, own, leaves, last, told) others = (
    now,
    behind ++ qs,
    said,
    rest ++ more,
    at,
    ap (λ (l : List Piece). l ++ qs) split ∙ append_assoc now behind qs,
    ap (λ (l : List ℕ). l ++ more) cut ∙ append_assoc said rest more,
    own,
    leaves,
    last,
    told_then (before ++ calls_of stay) at mid new stays behind qs rest more told others,
  )

  -- the session leaves one more volume
  pub told_suspended : (before : List Receipt) (old new : State) (stays : List Stay) (stay : Stay) (ps : List Piece) (text : List ℕ) → AreTold admits hosted false before old stays ps text new → LeavesBehind (before ++ flat_map calls_of stays) new stay
      → AreTold admits hosted true before old (stays ++ stay ∷ []) ps text new
  told_suspended before old new [] stay ps text told leaves =
      (ps, [], text, [], new, sym (append-nil ps), sym (append-nil text), told, subst (λ (l : List Receipt). LeavesBehind l new stay) (append-nil before) leaves, λ ended. (refl, refl), (refl, refl, refl))
  told_suspended before old new (first ∷ stays) stay ps text (now, behind, said, rest, at, split, cut, own, left, last, told) leaves = (
    now,
    behind,
    said,
    rest,
    at,
    split,
    cut,
    own,
    left,
    λ ended. absurd (false≢true (last ended).1),
    told_suspended (before ++ calls_of first) at new stays stay behind rest told (subst (λ (l : List Receipt). LeavesBehind l new stay) (sym (append_assoc before (calls_of first) (flat_map calls_of stays))) leaves),
  )

  -- it is in the next one, unless it has ended
  module _ (new : State) (life : Life) (is : new.0 ≡ Some life) (going : life.ended ≡ false) where
    not_ended : (stay : Stay) (before : List Receipt) (mid : State) (ps : List Piece) (text : List ℕ) → LeavesBehind before mid stay → AreTold admits hosted true (before ++ calls_of stay) mid [] ps text new → stay.1 ≡ true → ⊥
    not_ended stay before mid ps text left (none, nothing, same) ended =
        let one : Some left.life ≡ Some life = sym left.is ∙ ap (λ (s : State). s.0) (sym same) ∙ is in
        let end : left.life.ended ≡ true = left.ended ∙ ended in
        absurd (let lives : left.life ≡ life = cc in let both = ap (λ (l : Life). l.ended) lives in false≢true (sym going ∙ sym both ∙ end))

    pub told_resumed : (before : List Receipt) (old : State) (stays : List Stay) (ps : List Piece) (text : List ℕ) → AreTold admits hosted true before old stays ps text new → AreTold admits hosted false before old stays ps text new
    told_resumed before old [] ps text told = said_now true old ps text new told
    told_resumed before old (stay ∷ stays) ps text (now, behind, said, rest, at, split, cut, own, left, last, told) = (
      now,
      behind,
      said,
      rest,
      at,
      split,
      cut,
      own,
      left,
      λ ended. absurd (not_ended stay before at behind rest left (subst (λ (l : List Stay). AreTold admits hosted true (before ++ calls_of stay) at l behind rest new) (last ended).0 told) ended),
      told_resumed (before ++ calls_of stay) at stays behind rest told,
    )

-- ---- what is left

-- a session that leaves the volume
module _ (c : Caller) (stub : Stub) (leaves : LeavesList c stub) (away : Bool) where
  abbrev behind : List Receipt
  behind = leaves.there.behind

  abbrev stay : Stay
  stay = (stub.receipts.items, c.life.ended)

  by : (b : Bool) → c.life.ended ≡ b → (closing : ℕ) × (calls_of stay ≡ behind) × (stub.receipts.items ≡ opening_receipt leaves.there.opening ∷ (behind ++ closing_receipts c.life.ended closing))
  by true ended =
      let are : stub.receipts.items ≡ opening_receipt leaves.there.opening ∷ behind = leaves.ended ended ∙ leaves.there.list in (
        0,
        ap (λ (b : Bool). calls_by b (behind_first stub.receipts.items)) ended ∙ ap behind_first are,
        are ∙ ap (λ (l : List Receipt). opening_receipt leaves.there.opening ∷ l) (sym (append-nil behind) ∙ ap (λ (b : Bool). behind ++ closing_receipts b 0) (sym ended)),
      )
  by false going =
      let n = (leaves.closed going).0 in
      let are : stub.receipts.items ≡ opening_receipt leaves.there.opening ∷ (behind ++ ending_receipt n ∷ []) = (leaves.closed going).1 ∙ ap (λ (l : List Receipt). l ++ ending_receipt n ∷ []) leaves.there.list in (
        n,
        ap (λ (b : Bool). calls_by b (behind_first stub.receipts.items)) going ∙ ap (λ (l : List Receipt). but_last (behind_first l)) are ∙ but-last behind (ending_receipt n),
        are ∙ ap (λ (b : Bool). opening_receipt leaves.there.opening ∷ (behind ++ closing_receipts b n)) (sym going),
      )

  pub left_behind : LeavesBehind (flat_map calls_of c.stays) (Some c.life, away) stay
  left_behind =
      let so = by c.life.ended refl in record {
        life = c.life;
        is = refl;
        ended = refl;
        calls = leaves.there.calls ∙ ap (λ (l : List Receipt). flat_map calls_of c.stays ++ l) (sym so.1);
        opening = leaves.there.opening;
        closing = so.0;
        receipts = so.2 ∙ ap (λ (l : List Receipt). opening_receipt leaves.there.opening ∷ (l ++ closing_receipts c.life.ended so.0)) (sym so.1);
      }
