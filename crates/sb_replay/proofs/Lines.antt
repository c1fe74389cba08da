-- What is gathered of the lines that were read.
use Rattle.std.proofs.Common.{◌≡◌, ◌∙◌, ◌+◌, ◌*◌, ◌<◌, ℕ, false, inl, inr, refl, ap, sym, subst, append_assoc, append-nil, List, [], ◌∷◌, ◌++◌, length, length-append, map, Option, Some, None, Result, Ok, Vec, IfOk, IfErr, IfSome}
use Rattle.std.specs.Prelude.{⊤}
use Rattle.std.proofs.lemmas.Bool.{false≢true}
use Rattle.std.proofs.lemmas.List.{flat_map_more, map-append}
use Rattle.std.specs.Global.{Global}
use Rattle.std.specs.Io.KnownBytes.{Consumes, IsAtEnd}
use Rattle.sb_tenant.specs.Limits.{session_count}
use Rattle.sb_wire.specs.Lines.{Addressed, Piece, pieces_of}
use Rattle.sb_wire.specs.declared.refusal.WireRefusal.{WireRefusal}
use Rattle.sb_wire.specs.Responses.{AnswersStream, AreAnswered, StopsBy}
use Rattle.sb_replay.specs.Input.{Asks, IsAsked, IsBadAs, IsFirstBad, asked, command_for, commands_for, rank}
use Rattle.sb_replay.specs.Scripts.{FailsToRead, Gives, HoldsScript, IsFresh, Reads, ReadsBy, RankedCommands, State, TakesBy, commands_at, is_over}
use Rattle.sb_replay.specs.declared.error.ScriptError.{ScriptError}
use Rattle.sb_replay.specs.declared.script.ScriptState.{ScriptState}
use Rattle.sb_replay.specs.declared.script.ScriptState.TheVariants.{Going, BadLine, NoMemory}

-- nothing is read
pub consumes_none : (known : Option (List ℕ)) → Consumes known known []
consumes_none None = tt
consumes_none (Some bytes) = refl

-- all of them
read_all : (rest : Option (List ℕ)) (bytes seen : List ℕ) → Consumes (Some bytes) rest seen → IsAtEnd rest → seen ≡ bytes
read_all None bytes seen reads at_end = absurd reads
read_all (Some left) bytes seen reads at_end = sym (reads ∙ ap (λ (t : List ℕ). seen ++ t) at_end ∙ append-nil seen)

module _ (tenants : ℕ) where
  -- each line so far asks for a command that stands in its row; or one of them is the first that asks for nothing
  abbrev Gathers : List Piece → RankedCommands → ScriptState → Type 0
  Gathers ps s (Going n) =
      (asks : List Addressed) × Asks tenants ps asks × (n ≡ length ps)
      × ((t k : ℕ) → k < session_count → commands_at s.rows (rank t k) ≡ commands_for t k asks)
  Gathers ps s (BadLine n why) = IsFirstBad tenants ps n why
  Gathers ps s NoMemory = ⊤

  abbrev Has : List Piece → State → Type 0
  Has ps state = (state.0.tenants ≡ tenants) × Gathers ps state.0 state.1

  -- ---- one line more

  asks_more : (ps : List Piece) (p : Piece) (asks : List Addressed) (a : Addressed) → Asks tenants ps asks → asked tenants p ≡ Some a → Asks tenants (ps ++ p ∷ []) (asks ++ a ∷ [])
  asks_more ps p asks a are is =
      map-append (asked tenants) ps (p ∷ []) ∙ ap (λ (l : List (Option Addressed)). l ++ asked tenants p ∷ []) are ∙ ap (λ (o : Option Addressed). map Some asks ++ o ∷ []) is
      ∙ sym (map-append Some asks (a ∷ []))

  bad_more : (ps : List Piece) (p : Piece) (n : ℕ) (why : WireRefusal) → IsFirstBad tenants ps n why → IsFirstBad tenants (ps ++ p ∷ []) n why
  bad_more ps p n why b =
      let are : ps ++ p ∷ [] ≡ b.good ++ b.bad ∷ (b.behind ++ p ∷ []) = ap (λ (l : List Piece). l ++ p ∷ []) b.are ∙ append_assoc b.good (b.bad ∷ b.behind) (p ∷ []) in
      record { good = b.good; asks = b.asks; are_good = b.are_good; bad = b.bad; is_bad = b.is_bad; reason = b.reason; behind = b.behind ++ p ∷ []; are = are; number = b.number }

  taken : (ps : List Piece) (p : Piece) (old new : RankedCommands) (n : ℕ) (q : ScriptState) → old.tenants ≡ tenants → Gathers ps old (Going n) → TakesBy old n p q new → Gathers (ps ++ p ∷ []) new q
  taken ps p old new n (Going m) same (asks, are, count, rows) (a, is, next, adds) = (
    asks ++ a ∷ [],
    asks_more ps p asks a are (subst (λ (k : ℕ). asked k p ≡ Some a) same is),
    next ∙ ap (λ (k : ℕ). k + 1) count ∙ sym (length-append ps (p ∷ [])),
    λ t k within. adds t k within ∙ ap (λ (l : List (List ℕ)). l ++ command_for t k a) (rows t k within) ∙ flat_map_more (command_for t k) [] asks a,
  )
  taken ps p old new n (BadLine m why) same (asks, are, count, rows) (none, reason, next) = record {
    good = ps;
    asks = asks;
    are_good = are;
    bad = p;
    is_bad = subst (λ (k : ℕ). asked k p ≡ None) same none;
    reason = subst (λ (k : ℕ). IsBadAs k p why) same reason;
    behind = [];
    are = refl;
    number = next ∙ ap (λ (k : ℕ). k + 1) count;
  }
  taken ps p old new n NoMemory same holds takes = tt

  one_more : (ps : List Piece) (p : Piece) (s : RankedCommands) (q : ScriptState) (new : State) → s.tenants ≡ tenants → Gathers ps s q → ReadsBy q s p new → Has (ps ++ p ∷ []) new
  one_more ps p s (Going n) new same holds (kept, takes) = (kept ∙ same, taken ps p s new.0 n new.1 same holds takes)
  one_more ps p s (BadLine n why) new same bad is = subst (λ (x : State). Has (ps ++ p ∷ []) x) (sym is) (same, bad_more ps p n why bad)
  one_more ps p s NoMemory new same holds is = subst (λ (x : State). Has (ps ++ p ∷ []) x) (sym is) (same, tt)

  -- ---- all lines

  pub fresh : (s : RankedCommands) → IsFresh tenants s → Has [] (s, Going 0)
  fresh s (same, empty) = (same, ([], refl, refl, λ t k _. empty (rank t k)))

  gathered : (ps qs : List Piece) (text : List ℕ) (old new : State) → Has ps old → AreAnswered Reads is_over old qs text new → Has (ps ++ qs) new
  gathered ps [] text old new has (none, same) = subst (λ (x : State). Has (ps ++ []) x) (sym same) (subst (λ (l : List Piece). Has l old) (sym (append-nil ps)) has)
  gathered ps (q ∷ qs) text old new has (first, rest, mid, is, going, own, others) =
      subst (λ (l : List Piece). Has l new) (append_assoc ps (q ∷ []) qs) (gathered (ps ++ q ∷ []) qs rest mid new (one_more ps q old.0 old.1 mid has.0 has.1 own.1) others)

  module _ {R : Type 0} (fails : R → Type 0) (remaining : R → Option (List ℕ)) (reader : R) (input : Option (List ℕ)) where
    abbrev Given : Result (Vec (Vec (Vec ℕ Global) Global) Global) ScriptError → Type 0
    Given r =
        IfOk r (λ rows. length rows.items ≡ session_count * tenants)
        × IfOk r (λ rows. IfSome input (λ bytes. HoldsScript tenants bytes rows.items))
        × IfErr r (λ e. (seen : List ℕ) × Consumes input (remaining reader) seen × FailsToRead fails remaining tenants seen reader e)

    -- an input that was read to its end
    given : (progress : ScriptState) (script : RankedCommands) (seen : List ℕ) (r : Result (Vec (Vec (Vec ℕ Global) Global) Global) ScriptError) → Consumes input (remaining reader) seen → IsAtEnd (remaining reader)
        → script.tenants ≡ tenants → Gathers (pieces_of seen) script progress → Gives progress script r → Given r
    given (Going n) script seen r reads at_end same (asks, are, count, rows_are) (rows, is, long, rows_is) = subst Given (sym is) (count_is, of_input input reads, tt)
      where
        count_is : length rows.items ≡ session_count * tenants
        count_is = long ∙ ap (λ (k : ℕ). session_count * k) same

        of_input : (known : Option (List ℕ)) → Consumes known (remaining reader) seen → IfSome known (λ bytes. HoldsScript tenants bytes rows.items)
        of_input None consumes = tt
        of_input (Some bytes) consumes = record {
          asks = asks;
          asked = subst (λ (b : List ℕ). IsAsked tenants b asks) (read_all (remaining reader) bytes seen consumes at_end) are;
          count = count_is;
          rows_are = λ t k _ within. ap (λ (l : List (List (List ℕ))). commands_at l (rank t k)) rows_is ∙ rows_are t k within;
        }
    given (BadLine n why) script seen r reads at_end same bad is = subst Given (sym is) (tt, tt, (seen, reads, (at_end, bad)))
    given NoMemory script seen r reads at_end same holds is = subst Given (sym is) (tt, tt, (seen, reads, tt))

    pub whole : (start end : State) (held holds : Option (List ℕ)) (x : Unit {0}) (r : Result (Vec (Vec (Vec ℕ Global) Global) Global) ScriptError) → Has [] start
        → (s : AnswersStream Reads is_over start input held end (remaining reader) holds) → StopsBy fails remaining reader false s.seen s.pieces s.left (Ok x) → Gives end.1 end.0 r → Given r
    whole start end held holds x r has s (none, inl (over, first)) gives = absurd (false≢true over)
    whole start end held holds x r has s (none, inr (at_end, all)) gives =
        let of_pieces = gathered [] s.pieces s.lines.text start end has s.lines.answered in
        given end.1 end.0 s.seen r s.reads at_end of_pieces.0 (subst (λ (ps : List Piece). Gathers ps end.0 end.1) all of_pieces.1) gives
