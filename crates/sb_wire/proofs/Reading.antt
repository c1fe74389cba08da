-- A stream that is being read, and how it stops.
use Rattle.std.proofs.Common.{◌≡◌, ◌∙◌, sym, ap, subst, refl, inr, ◌++◌, [], List, ℕ, Bool, append_assoc, append-nil, Option, Result, Ok, Err}
use Rattle.std.specs.Prelude.{OnOk, IfErr}
use Rattle.std.specs.Io.KnownBytes.{Consumes, IsAtEnd}
use Rattle.std.proofs.KnownBytes.{Consumes-nil, Consumes-trans}
use Rattle.sb_wire.specs.Lines.{Piece, line, piece_of, pieces_of, complete_pieces, open_line, last_piece}
use Rattle.sb_wire.specs.Responses.{AnswersBytes, AnswersLines, AnswersStream, Answering, StopsBy}
use Rattle.sb_wire.specs.Stream.{AreFirst, IsSeenInTime}
use Rattle.sb_wire.specs.declared.fault.StreamError.{StreamError}
use Rattle.sb_wire.specs.declared.fault.StreamError.TheVariants.{ReadFault, WriteFault, NoMemory}
use Rattle.sb_wire.proofs.Responses.{lines_as, lines_none, lines_then}
use Rattle.sb_wire.proofs.Streams.{pieces-cut, pieces-before}

-- the complete lines of the bytes so far are answered and written
pub record Reading {State : Type 0} (responds : Answering State) (over : State → Bool) (old : State) (input held : Option (List ℕ)) (seen : List ℕ) (opened : Piece) (new : State) (rest holds : Option (List ℕ)) : Type 0 where
  pub reads : Consumes input rest seen
  pub is_open : opened ≡ piece_of (open_line seen)
  pub lines : AnswersLines responds over old held [] (complete_pieces seen) new holds []

pub reading-none : {State : Type 0} (responds : Answering State) (over : State → Bool) (a : State) (i h : Option (List ℕ)) → Reading responds over a i h [] (line []) a i h
reading-none responds over a i h = record { reads = Consumes-nil i; is_open = refl; lines = lines_none responds over a h [] }

module _ {State : Type 0} {responds : Answering State} {over : State → Bool} {a b c : State} {i0 i1 h0 h1 h2 : Option (List ℕ)} {seen waiting left : List ℕ} {p : Piece} (i2 : Option (List ℕ)) (so_far : Reading responds over a i0 h0 seen p b i1 h1) (empty : waiting ≡ []) where
  module _ {bytes : List ℕ} (reads : Consumes i1 i2 bytes) (takes : AnswersBytes responds over b h1 waiting p bytes c h2 left) where
    completed : (complete_pieces (seen ++ takes.taken) ≡ complete_pieces seen ++ takes.pieces) × (takes.opened ≡ piece_of (open_line (seen ++ takes.taken)))
    completed = takes.completes.behind seen so_far.is_open

    -- the lines that the bytes complete are answered
    reading-lines : AnswersLines responds over a h0 [] (complete_pieces seen ++ takes.pieces) c h2 left
    reading-lines = lines_then (complete_pieces seen) takes.pieces so_far.lines (subst (λ (t : List ℕ). AnswersLines responds over b h1 t takes.pieces c h2 left) empty takes.lines)

    pub reading-more : {q : Piece} → takes.ahead ≡ [] → takes.opened ≡ q → left ≡ [] → Reading responds over a i0 h0 (seen ++ bytes) q c i2 h2
    reading-more none is no_more =
        let all : takes.taken ≡ bytes = sym (takes.split ∙ ap (λ (t : List ℕ). takes.taken ++ t) none ∙ append-nil takes.taken) in
        let pieces : complete_pieces seen ++ takes.pieces ≡ complete_pieces (seen ++ bytes) = sym completed.0 ∙ ap (λ (t : List ℕ). complete_pieces (seen ++ t)) all in record {
          reads = Consumes-trans i0 i1 i2 seen bytes so_far.reads reads;
          is_open = sym is ∙ completed.1 ∙ ap (λ (t : List ℕ). piece_of (open_line (seen ++ t))) all;
          lines = lines_as pieces (subst (λ (t : List ℕ). AnswersLines responds over a h0 [] (complete_pieces seen ++ takes.pieces) c h2 t) no_more reading-lines);
        }

    -- the stream stops among them
    pub reading-stopped : IsSeenInTime (seen ++ bytes) → (s : AnswersStream responds over a i0 h0 c i2 h2) × (s.left ≡ left) × AreFirst s.pieces s.seen
    reading-stopped in_time =
        let more = pieces-before (seen ++ takes.taken) takes.ahead in
        let all : seen ++ bytes ≡ (seen ++ takes.taken) ++ takes.ahead = ap (λ (t : List ℕ). seen ++ t) takes.split ∙ sym (append_assoc seen takes.taken takes.ahead) in (
          record {
            seen = seen ++ bytes;
            reads = Consumes-trans i0 i1 i2 seen bytes so_far.reads reads;
            in_time = in_time;
            pieces = complete_pieces seen ++ takes.pieces;
            left = left;
            lines = reading-lines;
          },
          refl,
          (more.0, ap pieces_of all ∙ more.1 ∙ ap (λ (ps : List Piece). ps ++ more.0) completed.0),
        )

  -- the open line is answered at the end
  pub reading-last : IsSeenInTime seen → Consumes i1 i2 [] → AnswersLines responds over b h1 waiting (last_piece p) c h2 left
      → (s : AnswersStream responds over a i0 h0 c i2 h2) × (s.left ≡ left) × (s.pieces ≡ pieces_of s.seen)
  reading-last in_time none last = (
    record {
      seen = seen;
      reads = subst (λ (t : List ℕ). Consumes i0 i2 t) (append-nil seen) (Consumes-trans i0 i1 i2 seen [] so_far.reads none);
      in_time = in_time;
      pieces = complete_pieces seen ++ last_piece p;
      left = left;
      lines = lines_then (complete_pieces seen) (last_piece p) so_far.lines (subst (λ (t : List ℕ). AnswersLines responds over b h1 t (last_piece p) c h2 left) empty last);
    },
    refl,
    sym (pieces-cut seen p so_far.is_open),
  )

module _ {R : Type 0} (fails : R → Type 0) (remaining : R → Option (List ℕ)) (reader : R) (over : Bool) (seen : List ℕ) (pieces : List Piece) (left : List ℕ) where
  -- a fault that isn't the reader's
  pub stops-early : (e : StreamError) → (e ≡ ReadFault → ⊥) → AreFirst pieces seen → StopsBy fails remaining reader over seen pieces left (Err e)
  stops-early ReadFault other first = absurd (other refl)
  stops-early WriteFault other first = first
  stops-early NoMemory other first = first

  pub stops-last : (r : Result (Unit {0}) StreamError) → IsAtEnd (remaining reader) → pieces ≡ pieces_of seen → OnOk r (left ≡ []) → IfErr r (λ e. e ≡ ReadFault → ⊥) → StopsBy fails remaining reader over seen pieces left r
  stops-last (Ok x) at_end all none other = (none, inr (at_end, all))
  stops-last (Err e) at_end all none other = stops-early e other ([], sym all ∙ sym (append-nil pieces))
