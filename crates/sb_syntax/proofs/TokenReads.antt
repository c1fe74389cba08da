-- The function finds each token.
use Rattle.std.proofs.Common.{◌≡◌, ◌≤◌, ◌+◌, ◌==◌, ◌&&◌, ◌||◌, ℕ, suc, Bool, true, false, cond, List, [], ◌∷◌, ◌++◌, length, drop, take, Option, Some, None, option_map, nat_le, is_some, refl, ap, sym, ◌∙◌, subst, inl, inr, append_assoc, arith}
use Rattle.std.proofs.lemmas.Bool.{ne_eqb, eqb-true, leb-true, le-leb, and_from, and_parts}
use Rattle.sb_value.specs.Printable.{is_printable}
use Rattle.sb_syntax.specs.declared.kind.TokenKind.{TokenKind}
use Rattle.sb_syntax.specs.declared.kind.TokenKind.TheVariants as k
use Rattle.sb_syntax.specs.Lex as lex
use Rattle.sb_syntax.specs.Lex.{IsToken, AreTokens, is_letter, is_digit, is_word, all, begins, doubled, two_bytes, one_byte, word_kind, transition}
use Rattle.sb_syntax.specs.Scan.{token_at, word_at, word_by, integer_at, text_at, text_by, closing, longer, symbol_at, symbol_by}
use Rattle.sb_syntax.proofs.TokenSound.{begins-transition}
use Rattle.sb_syntax.proofs.TokenLaws.{chosen}
use Rattle.sb_syntax.proofs.Bytes.{run-all, front, no_letter, letter-word}

-- ---- words

word-reads : (b : ℕ) (bs rest : List ℕ) → is_letter b ≡ true → all is_word bs ≡ true → begins is_word rest ≡ false → transition (b ∷ bs ++ rest) ≡ None → word_at (b ∷ bs ++ rest) ≡ Some (word_kind (b ∷ bs), length (b ∷ bs))
unfolding word_at
word-reads b bs rest letter words ends none =
    let e = run-all is_word (b ∷ bs) rest (and_from _ _ (letter-word b letter) words) ends in
    ap (word_by (b ∷ bs ++ rest)) none ∙ ap (λ n. Some (word_kind (take n (b ∷ bs ++ rest)), n)) e ∙ ap (λ xs. Some (word_kind xs, suc (length bs))) (front (b ∷ bs) rest)

pub letter-at : (b : ℕ) (bs : List ℕ) → is_letter b ≡ true → token_at (b ∷ bs) ≡ word_at (b ∷ bs)
unfolding token_at
letter-at b bs e = rw e refl

-- the two transition words begin with a letter
starts : (text : List ℕ) (c : ℕ) (cs : List ℕ) → take 11 text ≡ c ∷ cs → is_letter c ≡ true → token_at text ≡ word_at text
starts [] c cs e letter = absurd (cc)
starts (b ∷ bs) c cs e letter = let f : b ≡ c = cc in letter-at b bs (ap is_letter f ∙ letter)

first_letter : (text : List ℕ) (kind : TokenKind) → transition text ≡ Some kind → token_at text ≡ word_at text
first_letter text kind e = elim (begins-transition text kind e) [ inl p ↦ starts text 111 _ p refl | inr p ↦ starts text 110 _ p refl ]

-- ---- integers

digit-no_letter : (b : ℕ) → is_digit b ≡ true → is_letter b ≡ false
digit-no_letter b e = go (nat_le 97 b) refl
  where
    small : b ≤ 57
    small = leb-true b 57 (and_parts (nat_le 48 b) (nat_le b 57) e).1

    go : (t : Bool) → nat_le 97 b ≡ t → ((nat_le 97 b && nat_le b 122) || b == 95) ≡ false
    go true f = let s = small in let g = leb-true 97 b f in absurd (omega arith)
    go false f = let s = small in ap (λ t. (t && nat_le b 122) || b == 95) f ∙ ne_eqb b 95 (λ h. omega arith)

integer-reads : (b : ℕ) (bs rest : List ℕ) → is_digit b ≡ true → all is_digit bs ≡ true → begins is_word rest ≡ false → integer_at (b ∷ bs ++ rest) ≡ Some (k.Integer, length (b ∷ bs))
unfolding integer_at
integer-reads b bs rest digit digits ends =
    let s = no_letter rest ends in
    let e = run-all is_digit (b ∷ bs) rest (and_from _ _ digit digits) s.1 in
    let d : drop (suc (length bs)) (b ∷ bs ++ rest) ≡ rest = dropped (b ∷ bs) rest in
    ap (λ n. cond (begins is_letter (drop n (b ∷ bs ++ rest))) None (Some (k.Integer, n))) e ∙ ap (λ xs. cond (begins is_letter xs) None (Some (k.Integer, suc (length bs)))) d
    ∙ ap (λ t. cond t None (Some (k.Integer, suc (length bs)))) s.0
  where
    dropped : (xs ys : List ℕ) → drop (length xs) (xs ++ ys) ≡ ys
    dropped [] ys = refl
    dropped (x ∷ xs) ys = dropped xs ys

-- ---- texts

closes : (rest : List ℕ) → begins (λ b. b == 39) rest ≡ false → closing (39 ∷ rest) ≡ Some (0, 1)
closes [] e = refl
closes (c ∷ rest) e = ap (λ t. cond t (longer 2 (closing rest)) (Some (0, 1))) e

one_more_byte : (b : ℕ) (bs : List ℕ) → (b == 39) ≡ false → is_printable b ≡ true → closing (b ∷ bs) ≡ longer 1 (closing bs)
one_more_byte b [] e p = ap (λ t. cond t (Some (0, 1)) None) e
one_more_byte b (c ∷ bs) e p = rw (e, p) refl

closing-reads : (value rest : List ℕ) → all is_printable value ≡ true → begins (λ b. b == 39) rest ≡ false → closing (doubled value ++ 39 ∷ rest) ≡ Some (length value, length (doubled value ++ 39 ∷ []))
closing-reads [] rest print ends = closes rest ends
closing-reads (b ∷ value) rest print ends = go (b == 39) refl (closing-reads value rest (and_parts _ _ print).1 ends)
  where
    go : (t : Bool) → (b == 39) ≡ t → closing (doubled value ++ 39 ∷ rest) ≡ Some (length value, length (doubled value ++ 39 ∷ [])) → closing (cond t (39 ∷ 39 ∷ doubled value) (b ∷ doubled value) ++ 39 ∷ rest) ≡ Some (suc (length value), length (cond t (39 ∷ 39 ∷ doubled value) (b ∷ doubled value) ++ 39 ∷ []))
    go true is h = ap (longer 2) h ∙ counted 2 (length value) (length (doubled value ++ 39 ∷ [])) _ _ (omega arith) (omega arith)
      where
        counted : (k l n m j : ℕ) → l + 1 ≡ m → n + k ≡ j → longer k (Some (l, n)) ≡ Some (m, j)
        counted k l n m j e f = rw (e, f) refl
    go false is h = one_more_byte b (doubled value ++ 39 ∷ rest) is (and_parts _ _ print).0 ∙ ap (longer 1) h ∙ counted 1 (length value) (length (doubled value ++ 39 ∷ [])) _ _ (omega arith) (omega arith)
      where
        counted : (k l n m j : ℕ) → l + 1 ≡ m → n + k ≡ j → longer k (Some (l, n)) ≡ Some (m, j)
        counted k l n m j e f = rw (e, f) refl

text-reads : (value rest : List ℕ) → all is_printable value ≡ true → length value ≤ 255 → begins (λ b. b == 39) rest ≡ false → token_at ((39 ∷ doubled value ++ 39 ∷ []) ++ rest) ≡ Some (k.Text, length (39 ∷ doubled value ++ 39 ∷ []))
unfolding token_at text_at
text-reads value rest print le ends =
    let e : (doubled value ++ 39 ∷ []) ++ rest ≡ doubled value ++ 39 ∷ rest = append_assoc (doubled value) (39 ∷ []) rest in
    let n = length (doubled value ++ 39 ∷ []) in
    let f : n + 1 ≡ suc n = omega arith in
    ap (λ xs. text_by (closing xs)) e ∙ ap text_by (closing-reads value rest print ends) ∙ ap (λ t. cond t (Some (k.Text, n + 1)) None) (le-leb (length value) 255 le) ∙ ap (λ m. Some (k.Text, m)) f

-- ---- symbols

-- one of a list of bytes
peel : (b c : ℕ) (P : ℕ → Type 0) (one kind : TokenKind) (more : Option TokenKind) → cond (b == c) (Some one) more ≡ Some kind → P c → (more ≡ Some kind → P b) → P b
peel b c P one kind more e here there = elim (chosen (b == c) (Some one) more kind e) [ inl p ↦ subst P (sym (eqb-true b c p.0)) here | inr p ↦ there p.1 ]

-- no letter, digit or quote
abbrev pub IsSymbol : ℕ → Type 0
IsSymbol b = (is_letter b ≡ false) × (is_digit b ≡ false) × ((b == 39) ≡ false)

pub one-symbol : (b : ℕ) (kind : TokenKind) → one_byte b ≡ Some kind → IsSymbol b
one-symbol b kind e =
    peel b 40 IsSymbol _ kind _ e (refl, refl, refl) (λ e. peel b 41 IsSymbol _ kind _ e (refl, refl, refl) (λ e. peel b 44 IsSymbol _ kind _ e (refl, refl, refl) (λ e. peel b 59 IsSymbol _ kind _ e (refl, refl, refl)
    (λ e. peel b 46 IsSymbol _ kind _ e (refl, refl, refl) (λ e. peel b 42 IsSymbol _ kind _ e (refl, refl, refl) (λ e. peel b 43 IsSymbol _ kind _ e (refl, refl, refl) (λ e. peel b 45 IsSymbol _ kind _ e (refl, refl, refl)
    (λ e. peel b 61 IsSymbol _ kind _ e (refl, refl, refl) (λ e. peel b 60 IsSymbol _ kind _ e (refl, refl, refl) (λ e. peel b 62 IsSymbol _ kind _ e (refl, refl, refl) (λ e. absurd (cc))))))))))))

peel_two : (b c x y : ℕ) (P : ℕ → Type 0) (one kind : TokenKind) (more : Option TokenKind) → cond (b == x && c == y) (Some one) more ≡ Some kind → P x → (more ≡ Some kind → P b) → P b
peel_two b c x y P one kind more e here there = elim (chosen (b == x && c == y) (Some one) more kind e) [ inl p ↦ subst P (sym (eqb-true b x (and_parts _ _ p.0).0)) here | inr p ↦ there p.1 ]

two-symbol : (b c : ℕ) (kind : TokenKind) → two_bytes b c ≡ Some kind → IsSymbol b
two-symbol b c kind e = peel_two b c 60 62 IsSymbol _ kind _ e (refl, refl, refl) (λ e. peel_two b c 60 61 IsSymbol _ kind _ e (refl, refl, refl) (λ e. peel_two b c 62 61 IsSymbol _ kind _ e (refl, refl, refl) (λ e. absurd (cc))))

pub at_symbol : (b : ℕ) (bs : List ℕ) → IsSymbol b → token_at (b ∷ bs) ≡ symbol_at (b ∷ bs)
unfolding token_at
at_symbol b bs s = rw (s.0, s.1, s.2) refl

pub one-reads : (kind : TokenKind) (b : ℕ) (rest : List ℕ) → one_byte b ≡ Some kind → begins (λ c. is_some (two_bytes b c)) rest ≡ false → symbol_at (b ∷ rest) ≡ Some (kind, 1)
unfolding symbol_at
one-reads kind b [] e alone = ap (option_map (λ kind. (kind, 1))) e
one-reads kind b (c ∷ rest) e alone = go (two_bytes b c) alone
  where
    go : (t : Option TokenKind) → is_some t ≡ false → symbol_by b t ≡ Some (kind, 1)
    go None f = ap (option_map (λ kind. (kind, 1))) e
    go (Some a) f = absurd (cc)

two-reads : (kind : TokenKind) (b c : ℕ) (rest : List ℕ) → two_bytes b c ≡ Some kind → symbol_at (b ∷ c ∷ rest) ≡ Some (kind, 2)
unfolding symbol_at
two-reads kind b c rest e = ap (symbol_by b) e

pub digit-at : (b : ℕ) (bs : List ℕ) → is_digit b ≡ true → token_at (b ∷ bs) ≡ integer_at (b ∷ bs)
unfolding token_at
digit-at b bs e = rw (digit-no_letter b e, e) refl

transition-at : (text : List ℕ) (kind : TokenKind) → transition text ≡ Some kind → word_at text ≡ Some (kind, 11)
unfolding word_at
transition-at text kind e = ap (word_by text) e

pub token-reads : (kind : TokenKind) (bytes rest : List ℕ) → IsToken kind bytes rest → (token_at (bytes ++ rest) ≡ Some (kind, length bytes)) × (1 ≤ length bytes)
token-reads kind bytes rest (lex.word {b = b} {bs = bs} letter words ends none) = (letter-at b (bs ++ rest) letter ∙ word-reads b bs rest letter words ends none, omega arith)
token-reads kind bytes rest (lex.transition_word long is) = (first_letter (bytes ++ rest) kind is ∙ transition-at (bytes ++ rest) kind is ∙ ap (λ n. Some (kind, n)) (sym long), omega arith)
token-reads kind bytes rest (lex.integer {b = b} {bs = bs} digit digits ends) = (digit-at b (bs ++ rest) digit ∙ integer-reads b bs rest digit digits ends, omega arith)
token-reads kind bytes rest (lex.text value print le ends) = (text-reads value rest print le ends, omega arith)
token-reads kind bytes rest (lex.two {b = b} {c = c} is) = (at_symbol b (c ∷ rest) (two-symbol b c kind is) ∙ two-reads kind b c rest is, omega arith)
token-reads kind bytes rest (lex.one {b = b} is alone) = (at_symbol b rest (one-symbol b kind is) ∙ one-reads kind b rest is alone, omega arith)
