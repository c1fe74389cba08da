-- A stream on a cell is one whose lines are answered by the cell's events.
use Rattle.std.proofs.Common.{◌≡◌, ◌∙◌, sym, ap, subst, refl, inl, inr, ◌++◌, ◌∷◌, [], List, ℕ, Bool, false, append-nil, Option, Some, None, Result, Ok, Err}
use Rattle.std.proofs.lemmas.Bool.{false≢true}
use Rattle.std.specs.Prelude.{OnOk, IfSome}
use Rattle.std.specs.Io.KnownBytes.{Appends, Consumes, IsAtEnd}
use Rattle.sb_tenant.specs.declared.bound.Bound.{Bound}
use Rattle.sb_cell.specs.Tenants.{Cell, hosts}
use Rattle.sb_wire.specs.Lines.{Piece, pieces_of}
use Rattle.sb_wire.specs.Output.{AreAnswers, IsOutput}
use Rattle.sb_wire.specs.Apart.{RunsApart}
use Rattle.sb_wire.specs.Counts.{Counts}
use Rattle.sb_wire.specs.Responses.{AnswersLines, AnswersStream, AreAnswered, StopsBy}
use Rattle.sb_wire.specs.Stream.{states, AnswersCounted, AnswersInput, AnswersPieces, EndsBy, Replies, Streams}
use Rattle.sb_wire.specs.declared.fault.StreamError.{StreamError}
use Rattle.sb_wire.specs.declared.fault.StreamError.TheVariants.{ReadFault, WriteFault, NoMemory}
use Rattle.sb_wire.specs.declared.summary.Summary.{Summary}
use Rattle.sb_wire.proofs.Apart.{runs-apart}
use Rattle.sb_wire.proofs.Answers.{same_hosts, same_again}
use Rattle.sb_wire.proofs.Counting.{counts-none, counts-one, counts-then}
use Rattle.sb_wire.proofs.Exact.{exact}

abbrev Counted : Type 0
Counted = Cell × Summary

-- each tenant is told what it would be told alone
apart-in : (old : Cell) (ps : List Piece) (text : List ℕ) (new : Cell) → AreAnswers (hosts old) old.bound (states old) ps text (states new)
    → RunsApart (hosts old) old.bound (states old) ps text (states new)
apart-in old ps text new answers = runs-apart (hosts old) old.bound (states old) ps text (states new) answers

-- no event ends the stream
abbrev pub goes_on : Counted → Bool
goes_on state = false

-- the lines are answered and counted
abbrev Told : Counted → List Piece → List ℕ → Counted → Type 0
Told old ps text new = AnswersPieces old.0 ps text new.0 × Counts ps text old.1 new.1

told : (old new : Counted) (ps : List Piece) (text : List ℕ) → AreAnswered AnswersCounted goes_on old ps text new → Told old ps text new
told old new [] text (none, same) =
    subst (λ (x : Counted). Told old [] text x) (sym same) (subst (λ (t : List ℕ). Told old [] t old) (sym none)
    (record { answers = (refl, refl); apart = apart-in old.0 [] [] old.0 (refl, refl); same = (refl, refl, refl, refl) }, counts-none old.1))
told old new (p ∷ ps) text (first, rest, mid, is, going, (r, said, own, same, adds), others) =
    let next = told mid new ps rest others in
    let later = next.0 in
    let after =
    subst (λ (h : ℕ → Bool). AreAnswers h old.0.bound (states mid.0) ps rest (states new.0)) (same_hosts old.0 mid.0 same)
    (subst (λ (k : Bound). AreAnswers (hosts mid.0) k (states mid.0) ps rest (states new.0)) same.2 later.answers) in
    let answers : AreAnswers (hosts old.0) old.0.bound (states old.0) (p ∷ ps) text (states new.0) = (first, rest, states mid.0, is, own, after) in
    let count = subst (λ (t : List ℕ). Counts (p ∷ []) t old.1 mid.1) (sym said) (counts-one p r old.1 mid.1 adds) in (
      record { answers = answers; apart = apart-in old.0 (p ∷ ps) text new.0 answers; same = same_again old.0 mid.0 new.0 same later.same },
      subst (λ (t : List ℕ). Counts (p ∷ ps) t old.1 new.1) (sym is) (counts-then (p ∷ []) ps first rest old.1 mid.1 new.1 count next.1),
    )

-- and so they are where a first part of the text is written
replied : (old new : Counted) (held holds : Option (List ℕ)) (waiting left : List ℕ) (ps : List Piece) (lines : AnswersLines AnswersCounted goes_on old held waiting ps new holds left)
    → (r : Replies old.0 held waiting ps new.0 holds left) × Counts ps r.text old.1 new.1
replied old new held holds waiting left ps lines =
    let all = told old new ps lines.text lines.answered in
    (record { text = lines.text; answered = all.0; written = lines.written; whole = lines.whole; appends = lines.appends }, all.1)

module _ {R : Type 0} (fails : R → Type 0) (remaining : R → Option (List ℕ)) (reader : R) where
  stops : (seen : List ℕ) (pieces : List Piece) (left : List ℕ) (r : Result (Unit {0}) StreamError) → StopsBy fails remaining reader false seen pieces left r → EndsBy fails remaining reader seen pieces left r
  stops seen pieces left (Ok x) (none, inl (over, first)) = absurd (false≢true over)
  stops seen pieces left (Ok x) (none, inr (at_end, all)) = (at_end, all, none)
  stops seen pieces left (Err ReadFault) (complete, none, going, may) = (complete, none, may)
  stops seen pieces left (Err WriteFault) first = first
  stops seen pieces left (Err NoMemory) first = first

  module _ (old new : Counted) (input h0 h2 : Option (List ℕ)) (r : Result (Unit {0}) StreamError) where
    pub cell-stream : (s : AnswersStream AnswersCounted goes_on old input h0 new (remaining reader) h2) → StopsBy fails remaining reader false s.seen s.pieces s.left r
        → (t : Streams old.0 input h0 new.0 (remaining reader) h2) × EndsBy fails remaining reader t.seen t.pieces t.left r × Counts t.pieces t.replies.text old.1 new.1
    cell-stream s end =
        let all = replied old new h0 h2 [] s.left s.pieces s.lines in
        (record { seen = s.seen; reads = s.reads; in_time = s.in_time; pieces = s.pieces; left = s.left; replies = all.0 }, stops s.seen s.pieces s.left r end, all.1)

-- what it says where all went well
pub stream-ok : {R : Type 0} (fails : R → Type 0) (remaining : R → Option (List ℕ)) (reader : R) (a c : Cell) (input h0 h2 : Option (List ℕ)) (r : Result (Unit {0}) StreamError) (s : Streams a input h0 c (remaining reader) h2)
    → EndsBy fails remaining reader s.seen s.pieces s.left r → OnOk r (IfSome input (λ bytes. (text : List ℕ) × Appends h0 h2 text × AnswersInput a bytes text c))
stream-ok fails remaining reader a c input h0 h2 (Err e) s ends = tt
stream-ok fails remaining reader a c None h0 h2 (Ok x) s ends = tt
stream-ok fails remaining reader a c (Some bytes) h0 h2 (Ok x) s (at_end, all, none) =
    let text = s.replies.text in
    let whole : text ≡ s.replies.written = s.replies.whole ∙ ap (λ (t : List ℕ). s.replies.written ++ t) none ∙ append-nil s.replies.written in
    let is : s.seen ≡ bytes = read-all (remaining reader) bytes s.seen s.reads at_end in
    let answers : IsOutput (hosts a) a.bound (states a) bytes text (states c) =
    subst (λ (ps : List Piece). AreAnswers (hosts a) a.bound (states a) ps text (states c)) (all ∙ ap pieces_of is) s.replies.answered.answers in (
      text,
      subst (λ (t : List ℕ). Appends h0 h2 t) (sym whole) s.replies.appends,
      record {
        answers = answers;
        exact = exact (hosts a) a.bound (states a) (pieces_of bytes) text (states c) answers;
        apart = apart-in a (pieces_of bytes) text c answers;
        same = s.replies.answered.same;
      },
    )
  where
    read-all : (rest : Option (List ℕ)) (bytes seen : List ℕ) → Consumes (Some bytes) rest seen → IsAtEnd rest → seen ≡ bytes
    read-all None bytes seen reads at_end = absurd reads
    read-all (Some left) bytes seen reads at_end = sym (reads ∙ ap (λ (t : List ℕ). seen ++ t) at_end ∙ append-nil seen)
