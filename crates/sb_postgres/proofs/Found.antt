-- The piece that the function finds is one, and where it finds a fault there is one.
use Rattle.std.proofs.Common.{◌≡◌, ◌≤◌, ◌+◌, ◌==◌, ◌&&◌, ℕ, suc, Bool, true, false, cond, List, [], ◌∷◌, ◌++◌, length, drop, take, Option, Some, None, Ok, Err, refl, ap, sym, ◌∙◌, subst, drop_at, arith}
use Rattle.std.proofs.lemmas.Bool.{eqb-true, eqb-false, and_parts, and_left, or_from, cond_both}
use Rattle.std.proofs.lemmas.List.{take-append-drop}
use Rattle.std.proofs.lemmas.List.Sums.{prefix_len-le-length}
use Rattle.std.specs.List.{prefix_len}
use Rattle.sb_postgres.specs.declared.query.error.Fault.TheVariants as fault
use Rattle.sb_postgres.specs.declared.query.piece.PieceKind.TheVariants as k
use Rattle.sb_postgres.specs.Bytes.{is_blank, is_letter, is_digit, is_word, is_in_line, is_quote, begins, all}
use Rattle.sb_postgres.specs.Pieces as p
use Rattle.sb_postgres.specs.Pieces.{IsPiece, IsFault, OpensDollarQuote, is_marked, begins_more, doubled}
use Rattle.sb_postgres.specs.Scan.{Found, closing, comment_end, up_to, word_at, dollar_at, piece_at}
use Rattle.sb_postgres.proofs.Runs.{goes_on, halts, all-run, run-ends, run-all, letter-word, word-letter, letter-no-digit, no_word}
use Rattle.sb_postgres.proofs.Quotes.{CloseSound, closing-sound}
use Rattle.sb_postgres.proofs.Comments.{EndSound, comment-sound}

abbrev pub Sound : Found → List ℕ → Type 0
Sound (Ok p) text = IsPiece p.0 (take p.1 text) (drop p.1 text) × (1 ≤ p.1) × (p.1 ≤ length text)
Sound (Err f) text = IsFault f text

-- ---- words

word-long : (b m : ℕ) (bs : List ℕ) → is_letter b ≡ true → m ≡ prefix_len is_word bs → Sound (cond (is_marked (take (suc m) (b ∷ bs)) (drop (suc m) (b ∷ bs))) (Err fault.Unsupported) (Ok (k.Word, suc m))) (b ∷ bs)
word-long b m bs letter is =
    let run : all is_word (take m bs) ≡ true = rw is (all-run is_word bs) in
    let ends : begins is_word (drop m bs) ≡ false = rw is (run-ends is_word bs) in
    let le : m ≤ length bs = rw is (prefix_len-le-length is_word bs) in
    cond_both (is_marked (b ∷ take m bs) (drop m bs)) (Err fault.Unsupported) (Ok (k.Word, suc m)) (λ r. Sound r (b ∷ bs))
    (λ marked. subst (λ (xs : List ℕ). IsFault fault.Unsupported (b ∷ xs)) (take-append-drop m bs) (p.marked_word (take m bs) (drop m bs) letter run ends marked))
    (λ plain. (p.word letter run ends plain, omega arith, omega arith))

word-sound : (b : ℕ) (bs : List ℕ) → is_letter b ≡ true → Sound (word_at (b ∷ bs)) (b ∷ bs)
unfolding word_at
word-sound b bs letter =
    let whole : List ℕ = b ∷ bs in
    subst (λ (n : ℕ). Sound (cond (is_marked (take n (b ∷ bs)) (drop n (b ∷ bs))) (Err fault.Unsupported) (Ok (k.Word, n))) (b ∷ bs)) (sym (goes_on is_word b bs (letter-word b letter)))
    (word-long b (prefix_len is_word bs) bs letter refl)

-- ---- quotes and comments

constant-sound : (bs : List ℕ) (r : Option ℕ) → CloseSound 39 0 bs r → Sound (up_to k.Constant 1 r) (39 ∷ bs)
constant-sound bs None h = subst (λ (xs : List ℕ). IsFault fault.Unclosed (39 ∷ xs)) (sym h.spelled) (p.open_constant h.value)
constant-sound bs (Some m) h =
    let t = h.total in
    let w = h.within in
    let e : suc h.len ≡ 1 + m = omega arith in
    let piece : IsPiece k.Constant (39 ∷ take h.len bs) (drop h.len bs) = subst (λ (xs : List ℕ). IsPiece k.Constant (39 ∷ xs) (drop h.len bs)) (sym h.spelled) (p.constant h.value h.ends) in
    subst (λ (n : ℕ). IsPiece k.Constant (take n (39 ∷ bs)) (drop n (39 ∷ bs)) × (1 ≤ n) × (n ≤ length (39 ∷ bs))) e (piece, omega arith, omega arith)

name-sound : (bs : List ℕ) (r : Option ℕ) → CloseSound 34 0 bs r → Sound (up_to k.QuotedName 1 r) (34 ∷ bs)
name-sound bs None h = subst (λ (xs : List ℕ). IsFault fault.Unclosed (34 ∷ xs)) (sym h.spelled) (p.open_name h.value)
name-sound bs (Some m) h =
    let t = h.total in
    let w = h.within in
    let e : suc h.len ≡ 1 + m = omega arith in
    let piece : IsPiece k.QuotedName (34 ∷ take h.len bs) (drop h.len bs) = subst (λ (xs : List ℕ). IsPiece k.QuotedName (34 ∷ xs) (drop h.len bs)) (sym h.spelled) (p.quoted_name h.value h.ends) in
    subst (λ (n : ℕ). IsPiece k.QuotedName (take n (34 ∷ bs)) (drop n (34 ∷ bs)) × (1 ≤ n) × (n ≤ length (34 ∷ bs))) e (piece, omega arith, omega arith)

block-sound : (bs : List ℕ) (r : Option ℕ) → EndSound 0 0 bs r → Sound (up_to k.Blank 2 r) (47 ∷ 42 ∷ bs)
block-sound bs None h = p.open_comment h
block-sound bs (Some m) h =
    let t = h.total in
    let w = h.within in
    let e : suc (suc h.len) ≡ 2 + m = omega arith in
    let piece : IsPiece k.Blank (47 ∷ 42 ∷ take h.len bs) (drop h.len bs) = p.block_comment h.closes in
    subst (λ (n : ℕ). IsPiece k.Blank (take n (47 ∷ 42 ∷ bs)) (drop n (47 ∷ 42 ∷ bs)) × (1 ≤ n) × (n ≤ length (47 ∷ 42 ∷ bs))) e (piece, omega arith, omega arith)

begins-is : (c : ℕ) (bs : List ℕ) → begins (λ b. b == c) bs ≡ true → bs ≡ c ∷ drop 1 bs
begins-is c [] e = absurd cc
begins-is c (b ∷ bs) e = ap (λ x. x ∷ bs) (eqb-true b c e)

comment-sound-at : (bs : List ℕ) → begins (λ b. b == 42) bs ≡ true → Sound (up_to k.Blank 2 (comment_end 0 0 (drop 1 bs))) (47 ∷ bs)
comment-sound-at bs e =
    let rest : List ℕ = drop 1 bs in
    subst (λ (xs : List ℕ). Sound (up_to k.Blank 2 (comment_end 0 0 (drop 1 bs))) (47 ∷ xs)) (sym (begins-is 42 bs e)) (block-sound (drop 1 bs) (comment_end 0 0 (drop 1 bs)) (comment-sound 0 0 (drop 1 bs)))

line-sound : (bs : List ℕ) → begins (λ b. b == 45) bs ≡ true → Sound (Ok (k.Blank, prefix_len is_in_line (45 ∷ bs))) (45 ∷ bs)
line-sound bs e =
    let rest : List ℕ = drop 1 bs in
    let m = prefix_len is_in_line (drop 1 bs) in
    let le : m ≤ length (drop 1 bs) = prefix_len-le-length is_in_line (drop 1 bs) in
    let n : prefix_len is_in_line (45 ∷ 45 ∷ drop 1 bs) ≡ suc (suc m) = goes_on is_in_line 45 (45 ∷ drop 1 bs) refl ∙ ap suc (goes_on is_in_line 45 (drop 1 bs) refl) in
    let piece : IsPiece k.Blank (45 ∷ 45 ∷ take m (drop 1 bs)) (drop m (drop 1 bs)) = p.line_comment (all-run is_in_line (drop 1 bs)) (run-ends is_in_line (drop 1 bs)) in
    subst (λ (xs : List ℕ). Sound (Ok (k.Blank, prefix_len is_in_line (45 ∷ xs))) (45 ∷ xs)) (sym (begins-is 45 bs e))
    (subst (λ (i : ℕ). Sound (Ok (k.Blank, i)) (45 ∷ 45 ∷ drop 1 bs)) (sym n) (piece, omega arith, omega arith))

-- ---- behind `$`

parameter-sound : (d m : ℕ) (ds : List ℕ) → is_digit d ≡ true → m ≡ prefix_len is_digit ds
    → Sound (cond (begins is_letter (drop (suc m) (d ∷ ds))) (Err fault.Unsupported) (Ok (k.Parameter, suc m + 1))) (36 ∷ d ∷ ds)
parameter-sound d m ds digit is =
    let run : all is_digit (take m ds) ≡ true = rw is (all-run is_digit ds) in
    let ends : begins is_digit (drop m ds) ≡ false = rw is (run-ends is_digit ds) in
    let le : m ≤ length ds = rw is (prefix_len-le-length is_digit ds) in
    let n : suc (suc m) ≡ suc m + 1 = omega arith in
    cond_both (begins is_letter (drop m ds)) (Err fault.Unsupported) (Ok (k.Parameter, suc m + 1)) (λ r. Sound r (36 ∷ d ∷ ds))
    (λ marked. subst (λ (xs : List ℕ). IsFault fault.Unsupported (36 ∷ d ∷ xs)) (take-append-drop m ds) (p.marked_parameter (take m ds) (drop m ds) digit run marked))
    (λ plain. subst (λ (i : ℕ). Sound (Ok (k.Parameter, i)) (36 ∷ d ∷ ds)) n (p.parameter digit run (no_word (drop m ds) plain ends), omega arith, omega arith))

-- a `$` begins a dollar quote exactly where another `$` is behind what may be a tag
tag-opens : (b : ℕ) (bs : List ℕ) (m : ℕ) → is_letter b ≡ true → m ≡ prefix_len is_word bs → begins (λ c. c == 36) (drop m bs) ≡ true → OpensDollarQuote (36 ∷ b ∷ bs)
tag-opens b bs m letter is e =
    let run : all is_word (take m bs) ≡ true = rw is (all-run is_word bs) in
    let parts : take m bs ++ 36 ∷ drop 1 (drop m bs) ≡ bs = ap (λ xs. take m bs ++ xs) (sym (begins-is 36 (drop m bs) e)) ∙ take-append-drop m bs in
    subst (λ (xs : List ℕ). OpensDollarQuote (36 ∷ b ∷ xs)) parts (p.tag (take m bs) (drop 1 (drop m bs)) letter run)

pub dollar-opens : (bs : List ℕ) → begins is_digit bs ≡ false → begins (λ c. c == 36) (drop (prefix_len is_word bs) bs) ≡ true → OpensDollarQuote (36 ∷ bs)
dollar-opens [] d e = absurd cc
dollar-opens (b ∷ bs) d e = go (is_word b) refl
  where
    go : (w : Bool) → is_word b ≡ w → OpensDollarQuote (36 ∷ b ∷ bs)
    go true w =
        let f : begins (λ c. c == 36) (drop (prefix_len is_word bs) bs) ≡ true = ap (λ n. begins (λ c. c == 36) (drop n (b ∷ bs))) (sym (goes_on is_word b bs w)) ∙ e in
        tag-opens b bs (prefix_len is_word bs) (word-letter b w d) refl f
    go false w =
        let f : (b == 36) ≡ true = ap (λ n. begins (λ c. c == 36) (drop n (b ∷ bs))) (sym (halts is_word b bs w)) ∙ e in
        subst (λ (x : ℕ). OpensDollarQuote (36 ∷ x ∷ bs)) (sym (eqb-true b 36 f)) p.no_tag

pub opens-dollar : (text bs : List ℕ) → text ≡ 36 ∷ bs → OpensDollarQuote text → (begins is_digit bs ≡ false) × (begins (λ c. c == 36) (drop (prefix_len is_word bs) bs) ≡ true)
opens-dollar text bs is (p.no_tag {rest = rest}) =
    let e : 36 ∷ rest ≡ bs = ap (drop 1) is in
    (ap (begins is_digit) (sym e), ap (λ (xs : List ℕ). begins (λ c. c == 36) (drop (prefix_len is_word xs) xs)) (sym e))
opens-dollar text bs is (p.tag {b = b} cs rest letter run) =
    let e : b ∷ cs ++ 36 ∷ rest ≡ bs = ap (drop 1) is in
    let n : prefix_len is_word (b ∷ cs ++ 36 ∷ rest) ≡ suc (length cs) = goes_on is_word b (cs ++ 36 ∷ rest) (letter-word b letter) ∙ ap suc (run-all is_word cs (36 ∷ rest) run refl) in
    let at : drop (length cs) (cs ++ 36 ∷ rest) ≡ 36 ∷ rest = drop_at cs (36 ∷ rest) (length cs) refl in
    let here : begins (λ c. c == 36) (drop (prefix_len is_word (b ∷ cs ++ 36 ∷ rest)) (b ∷ cs ++ 36 ∷ rest)) ≡ true = ap (λ i. begins (λ c. c == 36) (drop i (b ∷ cs ++ 36 ∷ rest))) n ∙ ap (begins (λ c. c == 36)) at in
    (ap (begins is_digit) (sym e) ∙ letter-no-digit b letter, ap (λ (xs : List ℕ). begins (λ c. c == 36) (drop (prefix_len is_word xs) xs)) (sym e) ∙ here)

digit-front : (bs : List ℕ) → begins is_digit bs ≡ true
    → Sound (cond (begins is_letter (drop (prefix_len is_digit bs) bs)) (Err fault.Unsupported) (Ok (k.Parameter, prefix_len is_digit bs + 1))) (36 ∷ bs)
digit-front [] e = absurd cc
digit-front (d ∷ ds) e =
    subst (λ (n : ℕ). Sound (cond (begins is_letter (drop n (d ∷ ds))) (Err fault.Unsupported) (Ok (k.Parameter, n + 1))) (36 ∷ d ∷ ds)) (sym (goes_on is_digit d ds e)) (parameter-sound d (prefix_len is_digit ds) ds e refl)

dollar-sound : (bs : List ℕ) → Sound (dollar_at bs) (36 ∷ bs)
unfolding dollar_at
dollar-sound bs =
    cond_both (begins is_digit bs) _ _ (λ r. Sound r (36 ∷ bs))
    (λ digit. digit-front bs digit)
    (λ other. cond_both (begins (λ c. c == 36) (drop (prefix_len is_word bs) bs)) (Err fault.Unsupported) (Ok (k.Byte, 1)) (λ r. Sound r (36 ∷ bs))
    (λ opens. p.dollar_quote (dollar-opens bs other opens))
    (λ shut. (p.byte other (λ o. let t = (opens-dollar (36 ∷ bs) bs refl o).1 in let z : true ≡ false = sym t ∙ shut in absurd cc), omega arith, omega arith)))

-- ---- any piece

first : List ℕ → ℕ
first [] = 0
first (x ∷ xs) = x

pub opens-with : (b : ℕ) (bs text : List ℕ) → text ≡ b ∷ bs → OpensDollarQuote text → b ≡ 36
unfolding first
opens-with b bs text is (p.no_tag {rest = rest}) = sym (ap first is)
opens-with b bs text is (p.tag {b = c} cs rest letter run) = sym (ap first is)

byte-sound : (b : ℕ) (bs : List ℕ) → is_blank b ≡ false → is_letter b ≡ false → (b == 39) ≡ false → (b == 34) ≡ false → (b == 59) ≡ false → (b == 36) ≡ false
    → (b == 45 && begins (λ c. c == 45) bs) ≡ false → (b == 47 && begins (λ c. c == 42) bs) ≡ false → Sound (Ok (k.Byte, 1)) (b ∷ bs)
byte-sound b bs blank letter q r s d line block =
    let alone : begins_more (b ∷ bs) ≡ false =
    or_from (is_blank b) _ blank (or_from (is_letter b) _ letter (or_from (is_quote b) _ (or_from (b == 39) (b == 34) q r) (or_from (b == 59) _ s
    (or_from (b == 45 && begins (λ c. c == 45) bs) _ line (or_from (b == 47 && begins (λ c. c == 42) bs) _ block (and_left (b == 36) (begins is_digit bs) d)))))) in
    (p.byte alone (λ o. eqb-false b 36 d (opens-with b bs (b ∷ bs) refl o)), omega arith, omega arith)

pub piece-sound : (b : ℕ) (bs : List ℕ) → Sound (piece_at (b ∷ bs)) (b ∷ bs)
unfolding piece_at
piece-sound b bs =
    let P : Found → Type 0 = λ r. Sound r (b ∷ bs) in
    cond_both (is_blank b) (Ok (k.Blank, 1)) _ P (λ e. (p.blank e, omega arith, omega arith)) (λ blank.
    cond_both (is_letter b) (word_at (b ∷ bs)) _ P (λ e. word-sound b bs e) (λ letter.
    cond_both (b == 39) (up_to k.Constant 1 (closing 39 0 bs)) _ P
    (λ e. subst (λ (x : ℕ). Sound (up_to k.Constant 1 (closing 39 0 bs)) (x ∷ bs)) (sym (eqb-true b 39 e)) (constant-sound bs (closing 39 0 bs) (closing-sound 39 0 bs))) (λ q.
    cond_both (b == 34) (up_to k.QuotedName 1 (closing 34 0 bs)) _ P
    (λ e. subst (λ (x : ℕ). Sound (up_to k.QuotedName 1 (closing 34 0 bs)) (x ∷ bs)) (sym (eqb-true b 34 e)) (name-sound bs (closing 34 0 bs) (closing-sound 34 0 bs))) (λ r.
    cond_both (b == 59) (Ok (k.Semicolon, 1)) _ P
    (λ e. subst (λ (x : ℕ). Sound (Ok (k.Semicolon, 1)) (x ∷ bs)) (sym (eqb-true b 59 e)) (p.semicolon, omega arith, omega arith)) (λ s.
    cond_both (b == 36) (dollar_at bs) _ P (λ e. subst (λ (x : ℕ). Sound (dollar_at bs) (x ∷ bs)) (sym (eqb-true b 36 e)) (dollar-sound bs)) (λ d.
    cond_both (b == 45 && begins (λ c. c == 45) bs) (Ok (k.Blank, prefix_len is_in_line (b ∷ bs))) _ P
    (λ e. let t = and_parts (b == 45) (begins (λ c. c == 45) bs) e in subst (λ (x : ℕ). Sound (Ok (k.Blank, prefix_len is_in_line (x ∷ bs))) (x ∷ bs)) (sym (eqb-true b 45 t.0)) (line-sound bs t.1)) (λ line.
    cond_both (b == 47 && begins (λ c. c == 42) bs) (up_to k.Blank 2 (comment_end 0 0 (drop 1 bs))) (Ok (k.Byte, 1)) P
    (λ e. let t = and_parts (b == 47) (begins (λ c. c == 42) bs) e in subst (λ (x : ℕ). Sound (up_to k.Blank 2 (comment_end 0 0 (drop 1 bs))) (x ∷ bs)) (sym (eqb-true b 47 t.0)) (comment-sound-at bs t.1)) (λ block.
    byte-sound b bs blank letter q r s d line block))))))))
