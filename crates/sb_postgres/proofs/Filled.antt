-- What is made of a line and values has the pieces of the line with these values.
use Rattle.std.proofs.Common.{◌≡◌, ◌<◌, ◌+◌, ◌/◌, ◌%◌, ◌==◌, ◌&&◌, nat_le, ℕ, zero, suc, Bool, true, false, List, [], ◌∷◌, ◌++◌, length, map, flat_map, pos, negsuc, Option, Some, None, Result, Ok, Err, refl, ap, sym, ◌∙◌, subst, append_assoc, arith}
use Rattle.std.proofs.lemmas.Bool.{and_left, and_parts, and_from, or_from, eqb-true, le-leb, lt-ltb, ne_eqb, false_from_ne_true, cond_both}
use Rattle.std.specs.Fmt.{decimal, digits, digits_onto, digit_glyph}
use Rattle.sb_value.specs.Literal as literals
use Rattle.sb_value.specs.declared.value.Value.{Value}
use Rattle.sb_value.specs.declared.value.Value.TheVariants.{Int, Text}
use Rattle.sb_postgres.specs.declared.query.piece.PieceKind.{PieceKind}
use Rattle.sb_postgres.specs.declared.query.piece.PieceKind.TheVariants as k
use Rattle.sb_postgres.specs.declared.query.template.FillError.{FillError}
use Rattle.sb_postgres.specs.Bytes.{is_blank, is_letter, is_digit, is_quote, begins, all}
use Rattle.sb_postgres.specs.Pieces as p
use Rattle.sb_postgres.specs.Pieces.{IsPiece, HasPieces, Pieces, begins_more, doubled}
use Rattle.sb_postgres.specs.Templates.{Cut, IsCut, no_more, one_more, text_of, literal, space, spaced, value_of, valued, part, joined, filled}
use Rattle.sb_postgres.proofs.Ahead.{Ahead, both_end, at_value, ahead-behind, stays}
use Rattle.sb_postgres.proofs.Found.{opens-with}
use Rattle.sb_postgres.proofs.Runs.{digit-range, letter-no-digit, no_blank}

-- ---- literals

doubled-same : (bytes : List ℕ) → flat_map literals.doubled bytes ≡ doubled 39 bytes
doubled-same [] = refl
doubled-same (b ∷ bytes) = go (b == 39) refl (doubled-same bytes)
  where
    go : (t : Bool) → (b == 39) ≡ t → flat_map literals.doubled bytes ≡ doubled 39 bytes → literals.doubled b ++ flat_map literals.doubled bytes ≡ doubled 39 (b ∷ bytes)
    go true is rec =
        let one : literals.doubled b ≡ 39 ∷ 39 ∷ [] = rw is refl in
        let two : doubled 39 (b ∷ bytes) ≡ b ∷ b ∷ doubled 39 bytes = rw is refl in
        ap (λ xs. xs ++ flat_map literals.doubled bytes) one ∙ (ap (λ xs. 39 ∷ 39 ∷ xs) rec ∙ (ap (λ x. x ∷ x ∷ doubled 39 bytes) (sym (eqb-true b 39 is)) ∙ sym two))
    go false is rec =
        let one : literals.doubled b ≡ b ∷ [] = rw is refl in
        let two : doubled 39 (b ∷ bytes) ≡ b ∷ doubled 39 bytes = rw is refl in
        ap (λ xs. xs ++ flat_map literals.doubled bytes) one ∙ (ap (λ xs. b ∷ xs) rec ∙ sym two)

quoted-piece : (bytes rest : List ℕ) → begins (λ b. b == 39) rest ≡ false → IsPiece k.Constant (literals.quoted_text bytes) rest
quoted-piece bytes rest ends = subst (λ (xs : List ℕ). IsPiece k.Constant (39 ∷ xs ++ 39 ∷ []) rest) (sym (doubled-same bytes)) (p.constant bytes ends)

-- a byte that begins nothing else
low-piece : (b : ℕ) (rest : List ℕ) → begins_more (b ∷ rest) ≡ false → (b ≡ 36 → ⊥) → IsPiece k.Byte (b ∷ []) rest
low-piece b rest alone n = p.byte alone (λ o. n (opens-with b rest (b ∷ rest) refl o))

digit-alone : (b : ℕ) (rest : List ℕ) → is_digit b ≡ true → begins_more (b ∷ rest) ≡ false
digit-alone b rest e =
    let r = digit-range b e in
    let letter : is_letter b ≡ false = false_from_ne_true (is_letter b) (λ l. let f : true ≡ false = sym e ∙ letter-no-digit b l in absurd cc) in
    or_from (is_blank b) _ (no_blank b (omega arith)) (or_from (is_letter b) _ letter
    (or_from (is_quote b) _ (or_from (b == 39) (b == 34) (ne_eqb b 39 (λ is. absurd (omega arith))) (ne_eqb b 34 (λ is. absurd (omega arith))))
    (or_from (b == 59) _ (ne_eqb b 59 (λ is. absurd (omega arith)))
    (or_from (b == 45 && begins (λ c. c == 45) rest) _ (and_left (b == 45) _ (ne_eqb b 45 (λ is. absurd (omega arith))))
    (or_from (b == 47 && begins (λ c. c == 42) rest) _ (and_left (b == 47) _ (ne_eqb b 47 (λ is. absurd (omega arith))))
    (and_left (b == 36) (begins is_digit rest) (ne_eqb b 36 (λ is. absurd (omega arith)))))))))

digit-piece : (b : ℕ) (rest : List ℕ) → is_digit b ≡ true → IsPiece k.Byte (b ∷ []) rest
digit-piece b rest e = let r = digit-range b e in low-piece b rest (digit-alone b rest e) (λ is. absurd (omega arith))

abbrev pub single : ℕ → PieceKind × List ℕ
single b = (k.Byte, b ∷ [])

digits-cut : (ds : List ℕ) (cs : Cut) → all is_digit ds ≡ true → IsCut (text_of cs) cs → IsCut (text_of (map single ds ++ cs)) (map single ds ++ cs)
digits-cut [] cs e h = h
digits-cut (d ∷ ds) cs e h =
    let s = and_parts (is_digit d) (all is_digit ds) e in
    one_more (digit-piece d (text_of (map single ds ++ cs)) s.0) refl (digits-cut ds cs s.1 h)

no_minus : (ds : List ℕ) (cs : Cut) → all is_digit ds ≡ true → begins (λ c. c == 45) (text_of cs) ≡ false → begins (λ c. c == 45) (text_of (map single ds ++ cs)) ≡ false
no_minus [] cs e h = h
no_minus (d ∷ ds) cs e h = let r = digit-range d (and_parts (is_digit d) (all is_digit ds) e).0 in ne_eqb d 45 (λ is. absurd (omega arith))

minus-cut : (ds : List ℕ) (cs : Cut) → all is_digit ds ≡ true → begins (λ c. c == 45) (text_of cs) ≡ false → IsCut (text_of cs) cs → IsCut (text_of (single 45 ∷ map single ds ++ cs)) (single 45 ∷ map single ds ++ cs)
minus-cut ds cs e n h = one_more (low-piece 45 (text_of (map single ds ++ cs)) (or_from (begins (λ c. c == 45) (text_of (map single ds ++ cs))) _ (no_minus ds cs e n) refl) (λ is. absurd (omega arith))) refl (digits-cut ds cs e h)

glyph-digit : (n : ℕ) → is_digit (digit_glyph false (n % 10)) ≡ true
glyph-digit n =
    let low : n % 10 < 10 = omega arith in
    let glyph : digit_glyph false (n % 10) ≡ 48 + n % 10 = rw (lt-ltb (n % 10) 10 low) refl in
    subst (λ (x : ℕ). is_digit x ≡ true) (sym glyph) (and_from (nat_le 48 (48 + n % 10)) (nat_le (48 + n % 10) 57) (le-leb 48 (48 + n % 10) (omega arith)) (le-leb (48 + n % 10) 57 (omega arith)))

onto-digits : (left n : ℕ) (acc : List ℕ) → all is_digit acc ≡ true → all is_digit (digits_onto left 10 false n acc) ≡ true
onto-digits zero n acc e = e
onto-digits (suc left) n acc e =
    let here : all is_digit (digit_glyph false (n % 10) ∷ acc) ≡ true = and_from _ _ (glyph-digit n) e in
    cond_both (n / 10 == 0) _ _ (λ ds. all is_digit ds ≡ true) (λ _. here) (λ _. onto-digits left (n / 10) _ here)

decimal-digits : (n : ℕ) → all is_digit (decimal n) ≡ true
unfolding digits
decimal-digits n = onto-digits 64 n [] refl

literal-cut : (v : Value) (cs : Cut) → IsCut (text_of (space ∷ cs)) (space ∷ cs) → IsCut (text_of (literal v ++ space ∷ cs)) (literal v ++ space ∷ cs)
literal-cut (Int (pos n)) cs h = digits-cut (decimal n) (space ∷ cs) (decimal-digits n) h
literal-cut (Int (negsuc n)) cs h = minus-cut (decimal (suc n)) (space ∷ cs) (decimal-digits (suc n)) refl h
literal-cut (Text bytes) cs h = one_more (quoted-piece bytes (text_of (space ∷ cs)) refl) refl h

space-cut : (cs : Cut) → IsCut (text_of cs) cs → IsCut (text_of (space ∷ cs)) (space ∷ cs)
space-cut cs h = one_more (p.blank refl) refl h

spaced-cut : (v : Value) (cs : Cut) → IsCut (text_of cs) cs → IsCut (text_of (spaced v ++ cs)) (spaced v ++ cs)
spaced-cut v cs h =
    subst (λ (ds : Cut). IsCut (text_of (space ∷ ds)) (space ∷ ds)) (sym (append_assoc (literal v) (space ∷ []) cs))
    (space-cut (literal v ++ space ∷ cs) (literal-cut v cs (space-cut cs h)))

-- ---- lines

-- the text of a cut, which goes on as the line does
abbrev pub Goes : List ℕ → Cut → Type 0
Goes line cs = IsCut (text_of cs) cs × Ahead line (text_of cs)

parameter-goes : (at : ℕ) (o : Option Value) (bytes rest : List ℕ) (more cs : Cut) → IsPiece k.Parameter bytes rest → joined (valued at o) (Ok more) ≡ Ok cs → Goes rest more → Goes (bytes ++ rest) cs
parameter-goes at None bytes rest more cs h e g = absurd cc
parameter-goes at (Some v) bytes rest more cs (p.parameter d ds ends) e g =
    let is : spaced v ++ more ≡ cs = cc in
    subst (λ (xs : Cut). Goes (bytes ++ rest) xs) is (spaced-cut v more g.0, at_value)

other-goes : (kind : PieceKind) (bytes rest : List ℕ) (more : Cut) → (kind ≡ k.Parameter → ⊥) → IsPiece kind bytes rest → Goes rest more → Goes (bytes ++ rest) ((kind, bytes) ∷ more)
other-goes kind bytes rest more n h g = (one_more (stays kind bytes rest (text_of more) n g.1 h) refl g.0, ahead-behind bytes rest (text_of more) g.1)

piece-goes : (values : List Value) (kind : PieceKind) (at : ℕ) (bytes rest : List ℕ) (more cs : Cut) → IsPiece kind bytes rest → joined (part values kind at bytes) (Ok more) ≡ Ok cs → Goes rest more → Goes (bytes ++ rest) cs
piece-goes values k.Parameter at bytes rest more cs h e g = parameter-goes at (value_of values bytes) bytes rest more cs h e g
piece-goes values k.Blank at bytes rest more cs h e g = let is : (k.Blank, bytes) ∷ more ≡ cs = cc in subst (λ (xs : Cut). Goes (bytes ++ rest) xs) is (other-goes k.Blank bytes rest more (λ no. absurd cc) h g)
piece-goes values k.Semicolon at bytes rest more cs h e g = let is : (k.Semicolon, bytes) ∷ more ≡ cs = cc in subst (λ (xs : Cut). Goes (bytes ++ rest) xs) is (other-goes k.Semicolon bytes rest more (λ no. absurd cc) h g)
piece-goes values k.Constant at bytes rest more cs h e g = let is : (k.Constant, bytes) ∷ more ≡ cs = cc in subst (λ (xs : Cut). Goes (bytes ++ rest) xs) is (other-goes k.Constant bytes rest more (λ no. absurd cc) h g)
piece-goes values k.QuotedName at bytes rest more cs h e g = let is : (k.QuotedName, bytes) ∷ more ≡ cs = cc in subst (λ (xs : Cut). Goes (bytes ++ rest) xs) is (other-goes k.QuotedName bytes rest more (λ no. absurd cc) h g)
piece-goes values k.Word at bytes rest more cs h e g = let is : (k.Word, bytes) ∷ more ≡ cs = cc in subst (λ (xs : Cut). Goes (bytes ++ rest) xs) is (other-goes k.Word bytes rest more (λ no. absurd cc) h g)
piece-goes values k.Byte at bytes rest more cs h e g = let is : (k.Byte, bytes) ∷ more ≡ cs = cc in subst (λ (xs : Cut). Goes (bytes ++ rest) xs) is (other-goes k.Byte bytes rest more (λ no. absurd cc) h g)

joined-behind : (front behind : Result Cut FillError) (cs : Cut) → joined front behind ≡ Ok cs → (more : Cut) × (behind ≡ Ok more)
joined-behind (Ok front) (Ok more) cs e = (more, refl)
joined-behind (Ok front) (Err error) cs e = absurd cc
joined-behind (Err error) behind cs e = absurd cc

pub filled-goes : (values : List Value) (at : ℕ) (line : List ℕ) (ps : Pieces) (cs : Cut) → HasPieces at line ps → filled values ps ≡ Ok cs → Goes line cs
unfolding filled
filled-goes values at line ps cs p.end_of_text e = let is : [] ≡ cs = cc in subst (λ (xs : Cut). Goes [] xs) is (no_more, both_end)
filled-goes values at line ps cs (p.no_piece h) e = absurd cc
filled-goes values at line ps cs (p.first {kind = kind} {bytes = bytes} {rest = rest} {more = more} h is m) e =
    let left = joined-behind (part values kind at bytes) (filled values more) cs e in
    let rec : Goes rest left.0 = filled-goes values (at + length bytes) rest more left.0 m left.1 in
    let here : joined (part values kind at bytes) (Ok left.0) ≡ Ok cs = ap (joined (part values kind at bytes)) (sym left.1) ∙ e in
    subst (λ (xs : List ℕ). Goes xs cs) (sym is) (piece-goes values kind at bytes rest left.0 cs h here rec)
