-- The lines of a file, taken one after another.
use Rattle.std.proofs.Common.{◌≡◌, ◌∙◌, ◌⊎◌, ℕ, Bool, true, false, List, [], ◌∷◌, ◌++◌, Option, Some, None, inl, inr, refl, sym, ap, subst, map}
use Rattle.std.proofs.lemmas.List.{append-nil}
use Rattle.std.specs.Io.KnownBytes.{Consumes, IsAtEnd}
use Rattle.sb_wire.specs.Lines.{Piece, line, too_long, pieces_of}
use Rattle.sb_wire.specs.Responses.{AreAnswered}
use Rattle.sb_wire.specs.Stream.{AreFirst}
use Rattle.sb_backup.specs.LoadedCells.{HasLines, Plays, PlaysBy, TakesEach}
use Rattle.sb_backup.specs.declared.line_player.LoadProgress.{LoadProgress}

-- a file that was read to its end has the lines that were answered
read_whole : (file rest : Option (List ℕ)) (seen : List ℕ) (pieces : List Piece) (lines : List (List ℕ)) → Consumes file rest seen → IsAtEnd rest
    → pieces ≡ pieces_of seen → pieces ≡ map line lines → HasLines file lines
read_whole None rest seen pieces lines reads ended whole are = tt
read_whole (Some bytes) None seen pieces lines reads ended whole are = absurd reads
read_whole (Some bytes) (Some left) seen pieces lines reads ended whole are =
    ap pieces_of (reads ∙ ap (λ x. seen ++ x) ended ∙ append-nil seen) ∙ sym whole ∙ are

module _ {S : Type 0} (takes refuses : S → List ℕ → S → Type 0) where
  -- a line that isn't a bad one
  good_line : (old new : S) (p : Piece) → PlaysBy takes refuses false old p new → (own : List ℕ) × (p ≡ line own) × takes old own new
  good_line old new (line own) taken = (own, refl, taken)
  good_line old new too_long none = absurd none

  abbrev is_bad : S × LoadProgress → Bool
  is_bad state = state.1.is_bad

  -- lines, none of which was a bad one
  stream_taken : (old new : S × LoadProgress) (ps : List Piece) (text : List ℕ) → AreAnswered (Plays takes refuses) is_bad old ps text new → new.1.is_bad ≡ false
      → (lines : List (List ℕ)) × (ps ≡ map line lines) × TakesEach takes lines old.0 new.0
  stream_taken old new [] text answered fine = ([], refl, ap (λ (s : S × LoadProgress). s.0) answered.1)
  stream_taken old new (p ∷ ps) text (first, rest, mid, is, going, one, more) fine =
      let here = good_line old.0 mid.0 p (subst (λ (b : Bool). PlaysBy takes refuses b old.0 p mid.0) (still ps more) one.1) in
      let behind = stream_taken mid new ps rest more fine in
      (here.0 ∷ behind.0, (λ i. here.1 i ∷ behind.1 i), (mid.0, here.2, behind.2))
    where
      still : (ps : List Piece) → AreAnswered (Plays takes refuses) is_bad mid ps rest new → mid.1.is_bad ≡ false
      still [] end = subst (λ (s : S × LoadProgress). s.1.is_bad ≡ false) end.1 fine
      still (q ∷ qs) next = next.4

  pub file_taken : (old new : S × LoadProgress) (file rest : Option (List ℕ)) (seen : List ℕ) (pieces : List Piece) (text : List ℕ)
      → AreAnswered (Plays takes refuses) (λ s. s.1.is_bad) old pieces text new → new.1.is_bad ≡ false → Consumes file rest seen
      → ((new.1.is_bad ≡ true) × AreFirst pieces seen) ⊎ (IsAtEnd rest × (pieces ≡ pieces_of seen))
      → (lines : List (List ℕ)) × HasLines file lines × TakesEach takes lines old.0 new.0
  file_taken old new file rest seen pieces text answered fine reads (inl (over, first)) = cc
  file_taken old new file rest seen pieces text answered fine reads (inr (ended, whole)) =
      let taken = stream_taken old new pieces text answered fine in (taken.0, read_whole file rest seen pieces taken.0 reads ended whole taken.1, taken.2)
