-- What is a piece is found, and what is a fault, too.
use Rattle.std.proofs.Common.{◌≡◌, ◌≤◌, ◌+◌, ◌==◌, ◌&&◌, ℕ, suc, Bool, true, false, cond, List, [], ◌∷◌, ◌++◌, length, drop, take, Ok, Err, refl, ap, sym, ◌∙◌, subst, drop_at, take_at, append_assoc, arith}
use Rattle.std.proofs.lemmas.Bool.{eqb-true, or_parts, false_from_ne_true}
use Rattle.std.specs.List.{prefix_len}
use Rattle.sb_postgres.specs.declared.query.error.Fault.{Fault}
use Rattle.sb_postgres.specs.declared.query.error.Fault.TheVariants as fault
use Rattle.sb_postgres.specs.declared.query.piece.PieceKind.{PieceKind}
use Rattle.sb_postgres.specs.declared.query.piece.PieceKind.TheVariants as k
use Rattle.sb_postgres.specs.Bytes.{is_blank, is_letter, is_digit, is_word, is_in_line, is_quote, begins, all}
use Rattle.sb_postgres.specs.Pieces as p
use Rattle.sb_postgres.specs.Pieces.{IsPiece, IsFault, OpensDollarQuote, is_marked, begins_more, doubled}
use Rattle.sb_postgres.specs.Scan.{Found, closing, up_to, word_at, dollar_at, piece_at}
use Rattle.sb_postgres.proofs.Runs.{goes_on, run-all, letter-word, letter-no-blank, letter-no-digit, no_letter}
use Rattle.sb_postgres.proofs.Quotes.{closing-reads, closing-open}
use Rattle.sb_postgres.proofs.Comments.{comment-reads, comment-open}
use Rattle.sb_postgres.proofs.Found.{dollar-opens, opens-dollar}

abbrev found : PieceKind → ℕ → Found
found kind n = Ok (kind, n)

abbrev fails : Fault → Found
fails f = Err f

-- ---- words

letter-at : (b : ℕ) (bs : List ℕ) → is_letter b ≡ true → piece_at (b ∷ bs) ≡ word_at (b ∷ bs)
unfolding piece_at
letter-at b bs letter = rw (letter-no-blank b letter, letter) refl

word-at-is : (b : ℕ) (bs rest : List ℕ) (marked : Bool) → is_letter b ≡ true → all is_word bs ≡ true → begins is_word rest ≡ false → is_marked (b ∷ bs) rest ≡ marked
    → word_at (b ∷ bs ++ rest) ≡ cond marked (fails fault.Unsupported) (found k.Word (suc (length bs)))
unfolding word_at
word-at-is b bs rest marked letter run ends is =
    let n : prefix_len is_word (b ∷ bs ++ rest) ≡ suc (length bs) = goes_on is_word b (bs ++ rest) (letter-word b letter) ∙ ap suc (run-all is_word bs rest run ends) in
    let whole : Found = found k.Word (suc (length bs)) in
    ap (λ i. cond (is_marked (take i (b ∷ bs ++ rest)) (drop i (b ∷ bs ++ rest))) (fails fault.Unsupported) (found k.Word i)) n
    ∙ (ap (λ ws. cond (is_marked (b ∷ ws) (drop (length bs) (bs ++ rest))) (fails fault.Unsupported) (found k.Word (suc (length bs)))) (take_at bs rest (length bs) refl)
    ∙ (ap (λ xs. cond (is_marked (b ∷ bs) xs) (fails fault.Unsupported) (found k.Word (suc (length bs)))) (drop_at bs rest (length bs) refl)
    ∙ ap (λ m. cond m (fails fault.Unsupported) (found k.Word (suc (length bs)))) is))

-- ---- quotes and comments

constant-at : (value rest : List ℕ) → begins (λ b. b == 39) rest ≡ false → piece_at (39 ∷ (doubled 39 value ++ 39 ∷ []) ++ rest) ≡ found k.Constant (length (39 ∷ doubled 39 value ++ 39 ∷ []))
unfolding piece_at
constant-at value rest ends =
    let e : (doubled 39 value ++ 39 ∷ []) ++ rest ≡ doubled 39 value ++ 39 ∷ rest = append_assoc (doubled 39 value) (39 ∷ []) rest in
    let n : 1 + (0 + length (doubled 39 value ++ 39 ∷ [])) ≡ suc (length (doubled 39 value ++ 39 ∷ [])) = omega arith in
    ap (λ xs. up_to k.Constant 1 (closing 39 0 xs)) e ∙ (ap (up_to k.Constant 1) (closing-reads 39 0 value rest ends) ∙ ap (found k.Constant) n)

name-at : (value rest : List ℕ) → begins (λ b. b == 34) rest ≡ false → piece_at (34 ∷ (doubled 34 value ++ 34 ∷ []) ++ rest) ≡ found k.QuotedName (length (34 ∷ doubled 34 value ++ 34 ∷ []))
unfolding piece_at
name-at value rest ends =
    let e : (doubled 34 value ++ 34 ∷ []) ++ rest ≡ doubled 34 value ++ 34 ∷ rest = append_assoc (doubled 34 value) (34 ∷ []) rest in
    let n : 1 + (0 + length (doubled 34 value ++ 34 ∷ [])) ≡ suc (length (doubled 34 value ++ 34 ∷ [])) = omega arith in
    ap (λ xs. up_to k.QuotedName 1 (closing 34 0 xs)) e ∙ (ap (up_to k.QuotedName 1) (closing-reads 34 0 value rest ends) ∙ ap (found k.QuotedName) n)

block-at : (bytes rest : List ℕ) → p.Closes 0 bytes → piece_at (47 ∷ 42 ∷ bytes ++ rest) ≡ found k.Blank (length (47 ∷ 42 ∷ bytes))
unfolding piece_at
block-at bytes rest h =
    let n : 2 + (0 + length bytes) ≡ suc (suc (length bytes)) = omega arith in
    ap (up_to k.Blank 2) (comment-reads 0 0 bytes rest h) ∙ ap (found k.Blank) n

line-at : (bytes rest : List ℕ) → all is_in_line bytes ≡ true → begins is_in_line rest ≡ false → piece_at (45 ∷ 45 ∷ bytes ++ rest) ≡ found k.Blank (length (45 ∷ 45 ∷ bytes))
unfolding piece_at
line-at bytes rest run ends =
    ap (found k.Blank) (goes_on is_in_line 45 (45 ∷ bytes ++ rest) refl ∙ ap suc (goes_on is_in_line 45 (bytes ++ rest) refl ∙ ap suc (run-all is_in_line bytes rest run ends)))

-- ---- behind `$`

dollar-is : (bs : List ℕ) → piece_at (36 ∷ bs) ≡ dollar_at bs
unfolding piece_at
dollar-is bs = refl

digits-at : (d : ℕ) (ds rest : List ℕ) (marked : Bool) → is_digit d ≡ true → all is_digit ds ≡ true → begins is_digit rest ≡ false → begins is_letter rest ≡ marked
    → dollar_at (d ∷ ds ++ rest) ≡ cond marked (fails fault.Unsupported) (found k.Parameter (suc (suc (length ds))))
unfolding dollar_at
digits-at d ds rest marked digit run ends is =
    let n : prefix_len is_digit (d ∷ ds ++ rest) ≡ suc (length ds) = goes_on is_digit d (ds ++ rest) digit ∙ ap suc (run-all is_digit ds rest run ends) in
    let m : suc (length ds) + 1 ≡ suc (suc (length ds)) = omega arith in
    ap (λ t. cond t (cond (begins is_letter (drop (prefix_len is_digit (d ∷ ds ++ rest)) (d ∷ ds ++ rest))) (fails fault.Unsupported) (found k.Parameter (prefix_len is_digit (d ∷ ds ++ rest) + 1)))
    (cond (begins (λ b. b == 36) (drop (prefix_len is_word (d ∷ ds ++ rest)) (d ∷ ds ++ rest))) (fails fault.Unsupported) (found k.Byte 1))) digit
    ∙ (ap (λ i. cond (begins is_letter (drop i (d ∷ ds ++ rest))) (fails fault.Unsupported) (found k.Parameter (i + 1))) n
    ∙ (ap (λ xs. cond (begins is_letter xs) (fails fault.Unsupported) (found k.Parameter (suc (length ds) + 1))) (drop_at ds rest (length ds) refl)
    ∙ (ap (λ i. cond (begins is_letter rest) (fails fault.Unsupported) (found k.Parameter i)) m
    ∙ ap (λ t. cond t (fails fault.Unsupported) (found k.Parameter (suc (suc (length ds))))) is)))

no-digits-at : (bs : List ℕ) (opens : Bool) → begins is_digit bs ≡ false → begins (λ b. b == 36) (drop (prefix_len is_word bs) bs) ≡ opens → dollar_at bs ≡ cond opens (fails fault.Unsupported) (found k.Byte 1)
unfolding dollar_at
no-digits-at bs opens digit is =
    ap (λ t. cond t (cond (begins is_letter (drop (prefix_len is_digit bs) bs)) (fails fault.Unsupported) (found k.Parameter (prefix_len is_digit bs + 1))) (cond (begins (λ b. b == 36) (drop (prefix_len is_word bs) bs)) (fails fault.Unsupported) (found k.Byte 1))) digit
    ∙ ap (λ t. cond t (fails fault.Unsupported) (found k.Byte 1)) is

quote-at : (text bs : List ℕ) → text ≡ 36 ∷ bs → OpensDollarQuote text → piece_at text ≡ Err fault.Unsupported
quote-at text bs is o =
    let h = opens-dollar text bs is o in
    ap piece_at is ∙ (dollar-is bs ∙ no-digits-at bs true h.0 h.1)

dollar-quote-at : (text : List ℕ) → OpensDollarQuote text → piece_at text ≡ Err fault.Unsupported
dollar-quote-at text (p.no_tag {rest = rest}) = quote-at (36 ∷ 36 ∷ rest) (36 ∷ rest) refl p.no_tag
dollar-quote-at text (p.tag {b = b} bs rest letter run) = quote-at (36 ∷ b ∷ bs ++ 36 ∷ rest) (b ∷ bs ++ 36 ∷ rest) refl (p.tag bs rest letter run)

-- ---- a byte by itself

byte-at : (b : ℕ) (bs : List ℕ) → begins_more (b ∷ bs) ≡ false → (OpensDollarQuote (b ∷ bs) → ⊥) → piece_at (b ∷ bs) ≡ found k.Byte 1
unfolding piece_at
byte-at b bs alone shut =
    let t0 = or_parts (is_blank b) _ alone in
    let t1 = or_parts (is_letter b) _ t0.1 in
    let t2 = or_parts (is_quote b) _ t1.1 in
    let q = or_parts (b == 39) (b == 34) t2.0 in
    let t3 = or_parts (b == 59) _ t2.1 in
    let t4 = or_parts (b == 45 && begins (λ c. c == 45) bs) _ t3.1 in
    let t5 = or_parts (b == 47 && begins (λ c. c == 42) bs) _ t4.1 in
    go (b == 36) refl t0.0 t1.0 q.0 q.1 t3.0 t4.0 t5.0 t5.1
  where
    go : (d : Bool) → (b == 36) ≡ d → is_blank b ≡ false → is_letter b ≡ false → (b == 39) ≡ false → (b == 34) ≡ false → (b == 59) ≡ false → (b == 45 && begins (λ c. c == 45) bs) ≡ false
        → (b == 47 && begins (λ c. c == 42) bs) ≡ false → (b == 36 && begins is_digit bs) ≡ false → piece_at (b ∷ bs) ≡ found k.Byte 1
    go true is blank letter q r s line block d =
        let same : b ≡ 36 = eqb-true b 36 is in
        let digit : begins is_digit bs ≡ false = ap (λ t. t && begins is_digit bs) (sym is) ∙ d in
        let closed : begins (λ c. c == 36) (drop (prefix_len is_word bs) bs) ≡ false =
        false_from_ne_true _ (λ o. shut (subst (λ (x : ℕ). OpensDollarQuote (x ∷ bs)) (sym same) (dollar-opens bs digit o))) in
        ap (λ x. piece_at (x ∷ bs)) same ∙ (dollar-is bs ∙ no-digits-at bs false digit closed)
    go false is blank letter q r s line block d = rw (blank, letter, q, r, s, is, line, block) refl

-- ---- any piece, any fault

pub piece-again : (kind : PieceKind) (bytes rest : List ℕ) → IsPiece kind bytes rest → piece_at (bytes ++ rest) ≡ Ok (kind, length bytes)
unfolding piece_at
piece-again kind bytes rest (p.blank {b = b} e) = rw e refl
piece-again kind bytes rest (p.line_comment {bytes = bs} run ends) = line-at bs rest run ends
piece-again kind bytes rest (p.block_comment {bytes = bs} h) = block-at bs rest h
piece-again kind bytes rest p.semicolon = refl
piece-again kind bytes rest (p.constant value ends) = constant-at value rest ends
piece-again kind bytes rest (p.quoted_name value ends) = name-at value rest ends
piece-again kind bytes rest (p.parameter {d = d} {ds = ds} digit run ends) = let n = no_letter rest ends in dollar-is (d ∷ ds ++ rest) ∙ digits-at d ds rest false digit run n.1 n.0
piece-again kind bytes rest (p.word {b = b} {bs = bs} letter run ends plain) = letter-at b (bs ++ rest) letter ∙ word-at-is b bs rest false letter run ends plain
piece-again kind bytes rest (p.byte {b = b} alone shut) = byte-at b rest alone shut

open-constant-at : (value : List ℕ) → piece_at (39 ∷ doubled 39 value) ≡ Err fault.Unclosed
unfolding piece_at
open-constant-at value = ap (up_to k.Constant 1) (closing-open 39 0 value)

open-name-at : (value : List ℕ) → piece_at (34 ∷ doubled 34 value) ≡ Err fault.Unclosed
unfolding piece_at
open-name-at value = ap (up_to k.QuotedName 1) (closing-open 34 0 value)

open-comment-at : (bytes : List ℕ) → p.StaysOpen 0 bytes → piece_at (47 ∷ 42 ∷ bytes) ≡ Err fault.Unclosed
unfolding piece_at
open-comment-at bytes h = ap (up_to k.Blank 2) (comment-open 0 0 bytes h)

no-digit-behind : (rest : List ℕ) → begins is_letter rest ≡ true → begins is_digit rest ≡ false
no-digit-behind [] e = refl
no-digit-behind (b ∷ rest) e = letter-no-digit b e

pub fault-again : (f : Fault) (text : List ℕ) → IsFault f text → piece_at text ≡ Err f
fault-again f text (p.open_constant value) = open-constant-at value
fault-again f text (p.open_name value) = open-name-at value
fault-again f text (p.open_comment {bytes = bytes} h) = open-comment-at bytes h
fault-again f text (p.marked_word {b = b} bs rest letter run ends marked) = letter-at b (bs ++ rest) letter ∙ word-at-is b bs rest true letter run ends marked
fault-again f text (p.dollar_quote o) = dollar-quote-at text o
fault-again f text (p.marked_parameter {d = d} ds rest digit run marked) = dollar-is (d ∷ ds ++ rest) ∙ digits-at d ds rest true digit run (no-digit-behind rest marked) marked

pub piece-some : (kind : PieceKind) (bytes rest : List ℕ) → IsPiece kind bytes rest → 1 ≤ length bytes
piece-some kind bytes rest (p.blank e) = omega arith
piece-some kind bytes rest (p.line_comment run ends) = omega arith
piece-some kind bytes rest (p.block_comment h) = omega arith
piece-some kind bytes rest p.semicolon = omega arith
piece-some kind bytes rest (p.constant value ends) = omega arith
piece-some kind bytes rest (p.quoted_name value ends) = omega arith
piece-some kind bytes rest (p.parameter digit run ends) = omega arith
piece-some kind bytes rest (p.word letter run ends plain) = omega arith
piece-some kind bytes rest (p.byte alone shut) = omega arith
