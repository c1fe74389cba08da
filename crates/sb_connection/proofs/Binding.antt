-- Which of the bytes that are to be sent bind, behind one line more.
use Rattle.std.proofs.Common.{◌≡◌, ◌⊎◌, ◌≤◌, ◌+◌, ◌-◌, ◌∙◌, arith, length, length-append, map, sym, ap, subst, refl, ℕ, Bool, true, false, List, [], ◌∷◌, ◌++◌, take, drop, append_assoc, append-nil, Option, Some, None}
use Rattle.std.specs.Option.{option_map_or}
use Rattle.std.specs.Prelude.{flat_map}
use Rattle.std.proofs.lemmas.Grind.{flat_map-append}
use Rattle.std.proofs.lemmas.List.{length-drop, map-append, take-append-drop}
use Rattle.sb_wire.specs.Lines.{Piece}
use Rattle.sb_connection.specs.Callers.{Caller, Life}
use Rattle.sb_connection.specs.Conversation.{Hosted, welcome}
use Rattle.sb_connection.specs.Exchanges.{AreWithin, Exchange, line_in, said_text, transacts_behind, transacts_from}
use Rattle.sb_connection.specs.Policies.{Admits}
use Rattle.sb_connection.specs.ProtocolState.{IsWithin, IsWithinBy, binding_after, has_in}
use Rattle.sb_connection.specs.Responses.{Exchanges, RespondsBy, State, life_in}
use Rattle.sb_connection.proofs.Whole.{opened, transacts_append}

-- whether a session has a transaction, by its life
abbrev pub has_of : Option Life → Bool
has_of life = option_map_or (λ (l : Life). l.has_transaction) life false

pub has_by : (o : Option Caller) → has_in o ≡ has_of (life_in o)
has_by None = refl
has_by (Some c) = refl

-- what binds of an output of which so many bytes were sent
pub bound_by : (has : Bool) (bound sent now : ℕ) (out : List ℕ) → now ≡ binding_after has bound (length out) → now - sent ≡ binding_after has (bound - sent) (length (drop sent out))
bound_by true bound sent now out is = ap (λ (n : ℕ). n - sent) is
bound_by false bound sent now out is = ap (λ (n : ℕ). n - sent) is ∙ sym (length-drop sent out)

-- at most all of it
pub few_by : (has : Bool) (old new all : ℕ) → new ≡ binding_after has old all → old ≤ all → new ≤ all
few_by true old new all is few = subst (λ (n : ℕ). n ≤ all) (sym is) few
few_by false old new all is few = omega (arith, is)

within_one : (was : Bool) (es : List Exchange) (e : Exchange) → AreWithin was es → transacts_behind (transacts_from was es) e ≡ true → AreWithin was (es ++ e ∷ [])
within_one was [] e none has = (has, tt)
within_one was (d ∷ es) e (first, more) has = (first, within_one (transacts_behind was d) es e more has)

-- more may be lost
pub within_more : (o : Option Life) (pieces : List Piece) (text lost handed : List ℕ) (binding : ℕ) → IsWithinBy o pieces text [] handed binding → IsWithinBy o pieces text lost handed binding
within_more None pieces text lost handed binding w = tt
within_more (Some life) pieces text lost handed binding w = record {
  first = w.first;
  before = w.before;
  behind = w.behind;
  lines_are = w.lines_are;
  text_is = w.text_is;
  has_is = w.has_is;
  within = w.within;
  sent = let old = w.sent in omega (arith, old);
}

-- more was sent
pub within_sent : (o : Option Life) (pieces : List Piece) (text lost handed pending : List ℕ) (binding count : ℕ) → binding ≤ length pending → IsWithinBy o pieces text lost handed binding
    → IsWithinBy o pieces text lost (handed ++ take count pending) (binding - count)
within_sent None pieces text lost handed pending binding count few w = tt
within_sent (Some life) pieces text lost handed pending binding count few w = record {
  first = w.first;
  before = w.before;
  behind = w.behind;
  lines_are = w.lines_are;
  text_is = w.text_is;
  has_is = w.has_is;
  within = w.within;
  sent =
      let old = w.sent in
      let front = length-append handed (take count pending) in
      let parts = length-append (take count pending) (drop count pending) in
      let whole : length (take count pending ++ drop count pending) ≡ length pending = ap length (take-append-drop count pending) in
      let rest = length-drop count pending in omega (arith, old, few, front, parts, whole, rest);
}

pub few_sent : (pending : List ℕ) (binding count : ℕ) → binding ≤ length pending → binding - count ≤ length (drop count pending)
few_sent pending binding count few = let rest = length-drop count pending in omega (arith, few, rest)

-- ---- one line more

module _ (admits : Admits) (hosted : Hosted) (p : Piece) (own : List ℕ) (pieces : List Piece) (text lost handed pending : List ℕ) (binding now : ℕ) (whole : text ++ own ≡ (handed ++ pending) ++ lost) where
  -- all that was said: it was sent, it is to be sent, or it is lost
  count : length (text ++ own) ≡ (length handed + length pending) + length lost
  count =
      let all : length (text ++ own) ≡ length ((handed ++ pending) ++ lost) = ap length whole in
      let outer = length-append (handed ++ pending) lost in
      let inner = length-append handed pending in omega (arith, all, outer, inner)

  -- behind an exchange
  module _ (was life : Life) (e : Exchange) (w : IsWithin was.has_transaction pieces text [] handed binding) (line_is : p ≡ line_in e) (own_is : own ≡ said_text e) (has_is : life.has_transaction ≡ transacts_behind was.has_transaction e) where
    abbrev so_far : List Exchange
    so_far = w.before ++ w.behind

    abbrev all : List Exchange
    all = so_far ++ e ∷ []

    all_lines : pieces ++ p ∷ [] ≡ w.first ∷ map line_in all
    all_lines =
        ap (λ (ps : List Piece). ps ++ p ∷ []) w.lines_are ∙ ap (λ (q : Piece). w.first ∷ (map line_in so_far ++ q ∷ [])) line_is
        ∙ ap (λ (ps : List Piece). w.first ∷ ps) (sym (map-append line_in so_far (e ∷ [])))

    all_text : text ++ own ≡ welcome ++ flat_map said_text all
    all_text =
        ap (λ (t : List ℕ). t ++ own) w.text_is ∙ append_assoc welcome (flat_map said_text so_far) own
        ∙ ap (λ (t : List ℕ). welcome ++ (flat_map said_text so_far ++ t)) (own_is ∙ sym (append-nil (said_text e)))
        ∙ ap (λ (t : List ℕ). welcome ++ t) (sym (flat_map-append said_text so_far (e ∷ [])))

    all_has : life.has_transaction ≡ transacts_from false all
    all_has = has_is ∙ ap (λ (b : Bool). transacts_behind b e) w.has_is ∙ sym (transacts_append false so_far (e ∷ []))

    goes_on : life.has_transaction ≡ true → now ≡ binding → IsWithin life.has_transaction (pieces ++ p ∷ []) (text ++ own) lost handed now
    goes_on has now_is =
        let same : all ≡ w.before ++ (w.behind ++ e ∷ []) = append_assoc w.before w.behind (e ∷ []) in
        let at_e : transacts_behind (transacts_from (transacts_from false w.before) w.behind) e ≡ true =
        ap (λ (b : Bool). transacts_behind b e) (sym (transacts_append false w.before w.behind) ∙ sym w.has_is) ∙ sym has_is ∙ has in record {
          first = w.first;
          before = w.before;
          behind = w.behind ++ e ∷ [];
          lines_are = all_lines ∙ ap (λ (es : List Exchange). w.first ∷ map line_in es) same;
          text_is = all_text ∙ ap (λ (es : List Exchange). welcome ++ flat_map said_text es) same;
          has_is = all_has ∙ ap (λ (es : List Exchange). transacts_from false es) same;
          within = within_one (transacts_from false w.before) w.behind e w.within at_e;
          sent = let old = w.sent in omega (arith, old, now_is);
        }

    rests : now ≡ length pending → IsWithin life.has_transaction (pieces ++ p ∷ []) (text ++ own) lost handed now
    rests now_is =
        let same : all ≡ all ++ [] = sym (append-nil all) in record {
          first = w.first;
          before = all;
          behind = [];
          lines_are = all_lines ∙ ap (λ (es : List Exchange). w.first ∷ map line_in es) same;
          text_is = all_text ∙ ap (λ (es : List Exchange). welcome ++ flat_map said_text es) same;
          has_is = all_has ∙ ap (λ (es : List Exchange). transacts_from false es) same;
          within = tt;
          sent = let said : length (text ++ own) ≡ length (welcome ++ flat_map said_text all) = ap length all_text in omega (arith, count, said, now_is);
        }

    within_exchange : (has : Bool) → life.has_transaction ≡ has → now ≡ binding_after has binding (length pending) → IsWithin life.has_transaction (pieces ++ p ∷ []) (text ++ own) lost handed now
    within_exchange true has now_is = goes_on has now_is
    within_exchange false has now_is = rests now_is

  -- behind the first line
  within_first : (life : Life) → pieces ≡ [] → text ≡ [] → own ≡ welcome → life.has_transaction ≡ false → now ≡ length pending → IsWithin life.has_transaction (pieces ++ p ∷ []) (text ++ own) lost handed now
  within_first life no_piece no_text own_is none now_is =
      let said : text ++ own ≡ welcome ++ [] = ap (λ (t : List ℕ). t ++ own) no_text ∙ own_is ∙ sym (append-nil welcome) in record {
        first = p;
        before = [];
        behind = [];
        lines_are = ap (λ (ps : List Piece). ps ++ p ∷ []) no_piece;
        text_is = said;
        has_is = none;
        within = tt;
        sent = let long : length (text ++ own) ≡ length (welcome ++ []) = ap length said in omega (arith, count, long, now_is);
      }

  within_by : (old new : Option Life) (away : Bool) → (old ≡ None → (pieces ≡ []) × (text ≡ [])) → RespondsBy admits hosted old p own (new, away) → IsWithinBy old pieces text [] handed binding
      → now ≡ binding_after (has_of new) binding (length pending) → IsWithinBy new (pieces ++ p ∷ []) (text ++ own) lost handed now
  within_by None None away alone greets w now_is = tt
  within_by None (Some life) away alone greets w now_is =
      let o = opened admits hosted p own life away greets in
      let none : life.has_transaction ≡ false = ap (λ (l : Life). l.has_transaction) o.2.2 in
      within_first life (alone refl).0 (alone refl).1 o.3 none (now_is ∙ ap (λ (b : Bool). binding_after b binding (length pending)) none)
  within_by (Some was) new away alone (e, life, line_is, own_is, moves, new_is) w now_is =
      subst (λ (o : Option Life). IsWithinBy o (pieces ++ p ∷ []) (text ++ own) lost handed now) (sym new_is)
      (within_exchange was life e w line_is own_is moves.1 life.has_transaction refl (now_is ∙ ap (λ (o : Option Life). binding_after (has_of o) binding (length pending)) new_is))

  pub within_line : (old new : State) → (old.0 ≡ None → (pieces ≡ []) × (text ≡ [])) → RespondsBy admits hosted old.0 p own new → IsWithinBy old.0 pieces text [] handed binding
      → now ≡ binding_after (has_of new.0) binding (length pending) → IsWithinBy new.0 (pieces ++ p ∷ []) (text ++ own) lost handed now
  within_line old new alone responds w now_is = within_by old.0 new.0 new.1 alone responds w now_is
