-- The lines of a stream that goes on.
use Rattle.std.proofs.Common.{◌≡◌, ℕ, zero, suc, ◌<◌, Bool, true, false, ◌==◌, List, [], ◌∷◌, ◌++◌, length, take, drop, get_or, map, refl, sym, ap, ◌∙◌, arith, append_assoc, append-nil, cond, nat_lt, lt-ltb, ltb-true, length-append}
use Rattle.std.proofs.lemmas.Bool.{false_from_ne_true, eqb-true}
use Rattle.std.proofs.lemmas.List.{map-append}
use Rattle.sb_wire.specs.Lines.{newline, before_lines, lines_of, Piece, line, too_long, piece_of, pieces_of, before_cut, cut_lines, complete_pieces, open_line, piece_more, Completes, last_piece}

abbrev Cut : Type 0
Cut = List (List ℕ) × List ℕ

-- more of the open line
abbrev cut_more : List ℕ → Cut → Cut
cut_more part (lines, tail) = (lines, tail ++ part)

before-more : (b : ℕ) (part : List ℕ) (r : Cut) → before_cut b (cut_more part r) ≡ cut_more part (before_cut b r)
before-more b part ([], tail) = refl
before-more b part (own ∷ lines, tail) = refl

-- the open line ends
abbrev cut_ended : List ℕ → Cut → Cut
cut_ended part (lines, tail) = (lines ++ (tail ++ part) ∷ [], [])

before-ended : (b : ℕ) (part : List ℕ) (r : Cut) → before_cut b (cut_ended part r) ≡ cut_ended part (before_cut b r)
before-ended b part ([], tail) = refl
before-ended b part (own ∷ lines, tail) = refl

-- a byte in front, by whether it is a newline
abbrev cut_by : Bool → ℕ → Cut → Cut
cut_by test b r = cond test ([] ∷ r.0, r.1) (before_cut b r)

by-more : (test : Bool) (b : ℕ) (part : List ℕ) (r : Cut) → cut_by test b (cut_more part r) ≡ cut_more part (cut_by test b r)
by-more true b part r = refl
by-more false b part r = before-more b part r

by-ended : (test : Bool) (b : ℕ) (part : List ℕ) (r : Cut) → cut_by test b (cut_ended part r) ≡ cut_ended part (cut_by test b r)
by-ended true b part r = refl
by-ended false b part r = before-ended b part r

abbrev pub NoNewline : List ℕ → Type 0
NoNewline [] = Unit {0}
NoNewline (b ∷ bytes) = ((b == newline) ≡ false) × NoNewline bytes

cut-none : (part : List ℕ) → NoNewline part → cut_lines part ≡ ([], part)
cut-none [] none = refl
cut-none (b ∷ part) (other, none) = rw (other, cut-none part none) refl

cut-end : (part : List ℕ) → NoNewline part → cut_lines (part ++ newline ∷ []) ≡ (part ∷ [], [])
cut-end [] none = refl
cut-end (b ∷ part) (other, none) = rw (other, cut-end part none) refl

-- a part without a newline goes on with the open line
cut-append : (seen part : List ℕ) → NoNewline part → cut_lines (seen ++ part) ≡ cut_more part (cut_lines seen)
cut-append [] part none = cut-none part none
cut-append (b ∷ seen) part none = ap (cut_by (b == newline) b) (cut-append seen part none) ∙ by-more (b == newline) b part (cut_lines seen)

-- and with a newline ends it
cut-ended : (seen part : List ℕ) → NoNewline part → cut_lines (seen ++ (part ++ newline ∷ [])) ≡ cut_ended part (cut_lines seen)
cut-ended [] part none = cut-end part none
cut-ended (b ∷ seen) part none = ap (cut_by (b == newline) b) (cut-ended seen part none) ∙ by-ended (b == newline) b part (cut_lines seen)

-- no newline before this place
pub none_before : (bytes : List ℕ) (end : ℕ) → ((k : ℕ) → k < end → k < length bytes → (get_or bytes k 0 == newline) ≡ true → ⊥) → NoNewline (take end bytes)
none_before [] zero before = tt
none_before [] (suc end) before = tt
none_before (b ∷ bytes) zero before = tt
none_before (b ∷ bytes) (suc end) before =
    (false_from_ne_true (b == newline) (λ e. before 0 (omega arith) (omega arith) e), none_before bytes end (λ k h g e. before (suc k) (omega arith) (omega arith) e))

-- a newline at this place
pub split_at : (bytes : List ℕ) (end : ℕ) → end < length bytes → (get_or bytes end 0 == newline) ≡ true → bytes ≡ (take end bytes ++ newline ∷ []) ++ drop (suc end) bytes
split_at [] end within at = absurd (omega arith)
split_at (b ∷ bytes) zero within at = ap (λ (x : ℕ). x ∷ bytes) (eqb-true b newline at)
split_at (b ∷ bytes) (suc end) within at = ap (λ (t : List ℕ). b ∷ t) (split_at bytes end (omega arith) at)

-- all lines are the complete ones, and then the open one if it has a byte
abbrev last_line : List ℕ → List (List ℕ)
last_line [] = []
last_line (b ∷ bytes) = (b ∷ bytes) ∷ []

abbrev all_lines : Cut → List (List ℕ)
all_lines (lines, tail) = lines ++ last_line tail

before-all : (b : ℕ) (r : Cut) → before_lines b (all_lines r) ≡ all_lines (before_cut b r)
before-all b ([], []) = refl
before-all b ([], c ∷ tail) = refl
before-all b (own ∷ lines, tail) = refl

lines-cut : (bytes : List ℕ) → lines_of bytes ≡ all_lines (cut_lines bytes)
lines-cut [] = refl
lines-cut (b ∷ bytes) = by_test (b == newline) (lines-cut bytes)
  where
    by_test : (test : Bool) → lines_of bytes ≡ all_lines (cut_lines bytes) → cond test ([] ∷ lines_of bytes) (before_lines b (lines_of bytes)) ≡ all_lines (cut_by test b (cut_lines bytes))
    by_test true rest = ap (λ (t : List (List ℕ)). [] ∷ t) rest
    by_test false rest = ap (before_lines b) rest ∙ before-all b (cut_lines bytes)

-- ---- the open line's piece

length-more : (bytes more : List ℕ) → 4096 < length bytes → 4096 < length (bytes ++ more)
length-more bytes more long = simp length-append (omega arith)

pub piece-more : (bytes more : List ℕ) → piece_of (bytes ++ more) ≡ piece_more (piece_of bytes) more
piece-more bytes more = by_test (nat_lt 4096 (length bytes)) refl
  where
    by_test : (b : Bool) → nat_lt 4096 (length bytes) ≡ b → piece_of (bytes ++ more) ≡ piece_more (cond b too_long (line bytes)) more
    by_test true e =
        let long : 4096 < length (bytes ++ more) = length-more bytes more (ltb-true 4096 (length bytes) e) in
        rw (lt-ltb 4096 (length (bytes ++ more)) long) refl
    by_test false e = refl

last-of : (bytes : List ℕ) → last_piece (piece_of bytes) ≡ map piece_of (last_line bytes)
last-of [] = refl
last-of (b ∷ bytes) = by_test (nat_lt 4096 (length (b ∷ bytes)))
  where
    by_test : (t : Bool) → last_piece (cond t too_long (line (b ∷ bytes))) ≡ cond t too_long (line (b ∷ bytes)) ∷ []
    by_test true = refl
    by_test false = refl

-- the lines of a stream are the complete ones, and then the open one
pub pieces-cut : (seen : List ℕ) (old : Piece) → old ≡ piece_of (open_line seen) → pieces_of seen ≡ complete_pieces seen ++ last_piece old
pieces-cut seen old is =
    ap (map piece_of) (lines-cut seen) ∙ map-append piece_of (cut_lines seen).0 (last_line (open_line seen))
    ∙ ap (λ (ps : List Piece). complete_pieces seen ++ ps) (sym (ap last_piece is ∙ last-of (open_line seen)))

-- ---- what bytes complete

-- nothing, but they go on with the open line
pub completes-none : (old : Piece) (part : List ℕ) → NoNewline part → Completes old part [] (piece_more old part)
completes-none old part none = record {
  behind = λ seen is.
      let cut = cut-append seen part none in (
        ap (λ (r : Cut). map piece_of r.0) cut ∙ sym (append-nil (complete_pieces seen)),
        ap (λ (p : Piece). piece_more p part) is ∙ sym (piece-more (open_line seen) part) ∙ ap (λ (r : Cut). piece_of r.1) (sym cut),
      );
}

-- the open line with the part
pub completes-line : (old : Piece) (part : List ℕ) → NoNewline part → Completes old (part ++ newline ∷ []) (piece_more old part ∷ []) (line [])
completes-line old part none = record {
  behind = λ seen is.
      let cut = cut-ended seen part none in
      let own : piece_more old part ≡ piece_of (open_line seen ++ part) = ap (λ (p : Piece). piece_more p part) is ∙ sym (piece-more (open_line seen) part) in (
        ap (λ (r : Cut). map piece_of r.0) cut ∙ map-append piece_of (cut_lines seen).0 ((open_line seen ++ part) ∷ [])
            ∙ ap (λ (p : Piece). complete_pieces seen ++ p ∷ []) (sym own),
        ap (λ (r : Cut). piece_of r.1) (sym cut),
      );
}

pub completes-nothing : (old : Piece) → Completes old [] [] old
completes-nothing old = record {
  behind = λ seen is. (
    ap complete_pieces (append-nil seen) ∙ sym (append-nil (complete_pieces seen)),
    is ∙ ap (λ (t : List ℕ). piece_of (open_line t)) (sym (append-nil seen)),
  );
}

-- one part and then the other
pub completes-then : (a b c : Piece) (xs ys : List ℕ) (ps qs : List Piece) → Completes a xs ps b → Completes b ys qs c → Completes a (xs ++ ys) (ps ++ qs) c
completes-then a b c xs ys ps qs first then = record {
  behind = λ seen is.
      let one = first.behind seen is in
      let two = then.behind (seen ++ xs) one.1 in
      let same : (seen ++ xs) ++ ys ≡ seen ++ (xs ++ ys) = append_assoc seen xs ys in (
        ap complete_pieces (sym same) ∙ two.0 ∙ ap (λ (t : List Piece). t ++ qs) one.0 ∙ append_assoc (complete_pieces seen) ps qs,
        two.1 ∙ ap (λ (t : List ℕ). piece_of (open_line t)) same,
      );
}

-- ---- a first part of a stream

-- whatever comes behind it, its complete lines are the first ones
lines-before : (xs ys : List ℕ) → (more : List (List ℕ)) × (lines_of (xs ++ ys) ≡ (cut_lines xs).0 ++ more)
lines-before [] ys = (lines_of ys, refl)
lines-before (b ∷ xs) ys = by_test (b == newline) (lines-before xs ys)
  where
    Told : Bool → List (List ℕ) → Type 0
    Told test more = cond test ([] ∷ lines_of (xs ++ ys)) (before_lines b (lines_of (xs ++ ys))) ≡ (cut_by test b (cut_lines xs)).0 ++ more

    behind : (lines more : List (List ℕ)) (tail : List ℕ) → (rest : List (List ℕ)) × (before_lines b (lines ++ more) ≡ (before_cut b (lines, tail)).0 ++ rest)
    behind [] more tail = (before_lines b more, refl)
    behind (own ∷ lines) more tail = (more, refl)

    by_test : (test : Bool) → (more : List (List ℕ)) × (lines_of (xs ++ ys) ≡ (cut_lines xs).0 ++ more)
        → (more : List (List ℕ)) × Told test more
    by_test true (more, is) = (more, ap (λ (t : List (List ℕ)). [] ∷ t) is)
    by_test false (more, is) =
        let one = behind (cut_lines xs).0 more (cut_lines xs).1 in (one.0, ap (before_lines b) is ∙ one.1)

pub pieces-before : (xs ys : List ℕ) → (more : List Piece) × (pieces_of (xs ++ ys) ≡ complete_pieces xs ++ more)
pieces-before xs ys =
    let lines = lines-before xs ys in
    (map piece_of lines.0, ap (map piece_of) lines.1 ∙ map-append piece_of (cut_lines xs).0 lines.0)
