-- A connection that is served over a stream: no volume is ended meanwhile.
use Rattle.std.proofs.Common.{◌≡◌, ◌∙◌, sym, ap, subst, refl, ℕ, Bool, true, false, List, [], ◌∷◌, map, Option, Some, None}
use Rattle.std.specs.Prelude.{IfSome}
use Rattle.sb_wire.specs.Lines.{Piece}
use Rattle.sb_wire.specs.Responses.{AreAnswered}
use Rattle.sb_desk.specs.declared.stub.Stub.{Stub}
use Rattle.sb_desk.specs.declared.receipts.Receipt.{Receipt}
use Rattle.sb_connection.specs.Callers.{Caller, Stay}
use Rattle.sb_connection.specs.Conversation.{Hosted, Talks}
use Rattle.sb_connection.specs.Exchanges.{IsClosed}
use Rattle.sb_connection.specs.Policies.{Admits}
use Rattle.sb_connection.specs.ProtocolState.{AreSaid, AreTold}
use Rattle.sb_connection.specs.Responses.{CallerState, LeavesSome, RespondsIn, State, is_over_in, over, stays_in, talk_of, waits_in}
use Rattle.sb_connection.proofs.Whole.{whole}

module _ (admits : Admits) (hosted : Hosted) where
  abbrev Answered : CallerState → List Piece → List ℕ → CallerState → Type 0
  Answered old pieces text new = AreAnswered (RespondsIn admits hosted) is_over_in old pieces text new

  -- the lines are answered, and no volume is left
  said : (old : CallerState) (pieces : List Piece) (text : List ℕ) (new : CallerState) → Answered old pieces text new
      → AreSaid admits hosted (talk_of old.0 old.1) pieces text (talk_of new.0 new.1) × (stays_in new.0 ≡ stays_in old.0) × (waits_in new.0 ≡ waits_in old.0)
  said old [] text new (none, same) = (
    (none, ap (λ (s : CallerState). talk_of s.0 s.1) same),
    ap (λ (s : CallerState). stays_in s.0) same,
    ap (λ (s : CallerState). waits_in s.0) same,
  )
  said old (p ∷ ps) text new (first, rest, mid, is, going, (own, stays_are, waits_are), others) =
      let s = said mid ps rest new others in
      ((first, rest, talk_of mid.0 mid.1, is, going, own, s.0), s.1 ∙ stays_are, s.2 ∙ waits_are)

  pub served : (pieces : List Piece) (text : List ℕ) (new : CallerState) (stub : Option Stub) → Answered (None, false) pieces text new → LeavesSome new.0 stub
      → Talks admits hosted pieces text [] stub (is_over_in new) × IfSome stub (λ k. IsClosed k.receipts.items)
  served pieces text new stub answered leaves =
      let s = said (None, false) pieces text new answered in
      let told : AreTold admits hosted (waits_in new.0) [] (None, false) (stays_in new.0) pieces text (talk_of new.0 new.1) =
      subst (λ (w : Bool). AreTold admits hosted w [] (None, false) (stays_in new.0) pieces text (talk_of new.0 new.1)) (sym s.2)
      (subst (λ (l : List Stay). AreTold admits hosted false [] (None, false) l pieces text (talk_of new.0 new.1)) (sym s.1) s.0) in
      let all = whole admits hosted pieces text new.0 new.1 stub told leaves in
      (subst (λ (l : List Stay). Talks admits hosted pieces text (map (λ (k : Stay). k.0) l) stub (is_over_in new)) s.1 all.0, all.1)
