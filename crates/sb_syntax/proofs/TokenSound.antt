-- A token that the function finds is one.
use Rattle.std.proofs.Common.{◌≡◌, ◌≤◌, ◌+◌, ◌==◌, ℕ, suc, true, false, cond, List, [], ◌∷◌, ◌++◌, length, drop, take, Option, Some, None, option_map, nat_le, is_some, codes, refl, ap, sym, ◌∙◌, subst, inl, inr, ◌⊎◌, arith}
use Rattle.std.specs.Str.{bytes_eq}
use Rattle.std.proofs.lemmas.Bool.{eqb-true, leb-true, and_from}
use Rattle.std.proofs.lemmas.List.{take-append-drop, length-take-le}
use Rattle.std.proofs.lemmas.Option.{same_Some}
use Rattle.sb_value.specs.Printable.{is_printable}
use Rattle.sb_syntax.specs.declared.kind.TokenKind.{TokenKind}
use Rattle.sb_syntax.specs.declared.kind.TokenKind.TheVariants as k
use Rattle.sb_syntax.specs.Lex as lex
use Rattle.sb_syntax.specs.Lex.{IsToken, AreTokens, is_letter, is_digit, is_word, all, begins, doubled, two_bytes, one_byte, word_kind, transition}
use Rattle.sb_syntax.specs.Scan.{token_at, word_at, word_by, integer_at, text_at, text_by, closing, longer, symbol_at, symbol_by}
use Rattle.std.specs.List.{prefix_len}
use Rattle.std.proofs.lemmas.List.Sums.{prefix_len-le-length}
use Rattle.sb_syntax.proofs.TokenLaws.{chosen}
use Rattle.sb_syntax.proofs.Bytes.{goes_on, all-run, run-ends, no_word, letter-word, same_bytes, length_front}

-- the token of n bytes at the front
abbrev Fits : TokenKind → ℕ → List ℕ → Type 0
Fits kind n text = IsToken kind (take n text) (drop n text) × (1 ≤ n) × (n ≤ length text)

fits : (text : List ℕ) (a kind : TokenKind) (m n : ℕ) → ◌≡◌ {A = Option (TokenKind × ℕ)} (Some (a, m)) (Some (kind, n)) → Fits a m text → Fits kind n text
fits text a kind m n e h = let q = same_Some {A = TokenKind × ℕ} (a, m) (kind, n) e in subst (λ (p : TokenKind × ℕ). Fits p.0 p.1 text) q h

-- a text with a transition word begins with one of two
pub begins-transition : (text : List ℕ) (kind : TokenKind) → transition text ≡ Some kind → (take 11 text ≡ codes "old-updated") ⊎ (take 11 text ≡ codes "new-updated")
unfolding transition
begins-transition text kind e = elim (chosen (begins is_word (drop 11 text)) _ _ kind e) [
  | inl p ↦ absurd (none p.1)
  | inr p ↦ elim (chosen (bytes_eq (take 11 text) (codes "old-updated")) _ _ kind p.1) [
    | inl q ↦ inl (same_bytes _ _ q.0)
    | inr q ↦ elim (chosen (bytes_eq (take 11 text) (codes "new-updated")) _ _ kind q.1) [ inl r ↦ inr (same_bytes _ _ r.0) | inr r ↦ absurd (none r.1) ]
  ]
]
  where
    none : ◌≡◌ {A = Option TokenKind} None (Some kind) → ⊥
    none e = cc

transition-long : (text : List ℕ) (kind : TokenKind) → transition text ≡ Some kind → 11 ≤ length text
transition-long text kind e = elim (begins-transition text kind e) [
  | inl p ↦ omega (arith, length_front 11 text, ap (length {A = ℕ}) p)
  | inr p ↦ omega (arith, length_front 11 text, ap (length {A = ℕ}) p)
]

word-sound : (kind : TokenKind) (n b : ℕ) (bs : List ℕ) → is_letter b ≡ true → (t : Option TokenKind) → transition (b ∷ bs) ≡ t → word_by (b ∷ bs) t ≡ Some (kind, n) → Fits kind n (b ∷ bs)
word-sound kind n b bs letter (Some a) is e =
    let le = transition-long (b ∷ bs) a is in
    fits (b ∷ bs) a kind 11 n e (lex.transition_word (length-take-le 11 (b ∷ bs) le) (ap transition (take-append-drop 11 (b ∷ bs)) ∙ is), omega arith, le)
word-sound kind n b bs letter None is e =
    let m = prefix_len is_word bs in
    let h : Fits (word_kind (b ∷ take m bs)) (suc m) (b ∷ bs) = (lex.word letter (all-run is_word bs) (run-ends is_word bs) (ap (λ xs. transition (b ∷ xs)) (take-append-drop m bs) ∙ is), omega arith, omega (arith, prefix_len-le-length is_word bs)) in
    fits (b ∷ bs) _ kind _ n e (subst (λ (j : ℕ). Fits (word_kind (take j (b ∷ bs))) j (b ∷ bs)) (sym (goes_on is_word b bs (letter-word b letter))) h)

integer-sound : (kind : TokenKind) (n b : ℕ) (bs : List ℕ) → is_digit b ≡ true → integer_at (b ∷ bs) ≡ Some (kind, n) → Fits kind n (b ∷ bs)
unfolding integer_at
integer-sound kind n b bs digit e = elim (chosen (begins is_letter (drop (prefix_len is_digit (b ∷ bs)) (b ∷ bs))) None (Some (k.Integer, prefix_len is_digit (b ∷ bs))) (kind, n) e) [
  | inl p ↦ absurd (never p.1)
  | inr p ↦ fits (b ∷ bs) k.Integer kind _ n p.1 (subst (λ (j : ℕ). begins is_letter (drop j (b ∷ bs)) ≡ false → Fits k.Integer j (b ∷ bs)) (sym (goes_on is_digit b bs digit))
      (λ plain. (lex.integer digit (all-run is_digit bs) (no_word (drop (prefix_len is_digit bs) bs) plain (run-ends is_digit bs)), omega arith, omega (arith, prefix_len-le-length is_digit bs))) p.0)
]
  where
    never : {A : Type 0} {x : A} → None ≡ Some x → ⊥
    never e = cc

-- what a closed text has
record Closed (bs : List ℕ) (len n : ℕ) : Type 0 where
  value : List ℕ
  spelled : take n bs ≡ doubled value ++ 39 ∷ []
  printable : all is_printable value ≡ true
  long : length value ≡ len
  ends : begins (λ b. b == 39) (drop n bs) ≡ false
  within : n ≤ length bs

split_longer : (k : ℕ) (r : Option (ℕ × ℕ)) (len n : ℕ) → longer k r ≡ Some (len, n) → (p : ℕ × ℕ) × (r ≡ Some p) × (p.0 + 1 ≡ len) × (p.1 + k ≡ n)
split_longer k None len n e = absurd (cc)
split_longer k (Some p) len n e =
    let q = same_Some {A = ℕ × ℕ} (p.0 + 1, p.1 + k) (len, n) e in
    (p, refl, ap (λ (x : ℕ × ℕ). x.0) q, ap (λ (x : ℕ × ℕ). x.1) q)

no_pair : (len n : ℕ) → ◌≡◌ {A = Option (ℕ × ℕ)} None (Some (len, n)) → ⊥
no_pair len n e = cc

closed_now : (b : ℕ) (bs : List ℕ) (len n : ℕ) → (b == 39) ≡ true → begins (λ b. b == 39) bs ≡ false → ◌≡◌ {A = Option (ℕ × ℕ)} (Some (0, 1)) (Some (len, n)) → Closed (b ∷ bs) len n
closed_now b bs len n is ended e =
    let q = same_Some {A = ℕ × ℕ} (0, 1) (len, n) e in
    subst (λ (p : ℕ × ℕ). Closed (b ∷ bs) p.0 p.1) q (record { value = []; spelled = ap (λ x. x ∷ []) (eqb-true b 39 is); printable = refl; long = refl; ends = ended; within = omega arith })

closed_pair : (b c : ℕ) (bs : List ℕ) (len n m l : ℕ) → (b == 39) ≡ true → (c == 39) ≡ true → Closed bs l m → l + 1 ≡ len → m + 2 ≡ n → Closed (b ∷ c ∷ bs) len n
closed_pair b c bs len n m l is js h e f =
    let g : suc (suc m) ≡ n = omega arith in
    let w = h.within in
    subst (λ (j : ℕ). Closed (b ∷ c ∷ bs) len j) g (record {
      value = 39 ∷ h.value;
      spelled = ap (λ x. x ∷ c ∷ take m bs) (eqb-true b 39 is) ∙ ap (λ x. 39 ∷ x ∷ take m bs) (eqb-true c 39 js) ∙ ap (λ xs. 39 ∷ 39 ∷ xs) h.spelled;
      printable = h.printable;
      long = omega (arith, h.long);
      ends = h.ends;
      within = omega arith;
    })

closed_byte : (b : ℕ) (bs : List ℕ) (len n m l : ℕ) → (b == 39) ≡ false → is_printable b ≡ true → Closed bs l m → l + 1 ≡ len → m + 1 ≡ n → Closed (b ∷ bs) len n
closed_byte b bs len n m l other print h e f =
    let g : suc m ≡ n = omega arith in
    let w = h.within in
    subst (λ (j : ℕ). Closed (b ∷ bs) len j) g (record {
      value = b ∷ h.value;
      spelled = ap (λ xs. b ∷ xs) h.spelled ∙ sym (ap (λ t. cond t (39 ∷ 39 ∷ doubled h.value) (b ∷ doubled h.value) ++ 39 ∷ []) other);
      printable = and_from _ _ print h.printable;
      long = omega (arith, h.long);
      ends = h.ends;
      within = omega arith;
    })

closing-sound : (bs : List ℕ) (len n : ℕ) → closing bs ≡ Some (len, n) → Closed bs len n
closing-sound [] len n e = absurd (no_pair len n e)
closing-sound (b ∷ []) len n e = elim (chosen (b == 39) (Some (0, 1)) None (len, n) e) [ inl p ↦ closed_now b [] len n p.0 refl p.1 | inr p ↦ absurd (no_pair len n p.1) ]
closing-sound (b ∷ c ∷ bs) len n e = step (closing-sound bs) (closing-sound (c ∷ bs)) e
  where
    step : ((len n : ℕ) → closing bs ≡ Some (len, n) → Closed bs len n) → ((len n : ℕ) → closing (c ∷ bs) ≡ Some (len, n) → Closed (c ∷ bs) len n) → closing (b ∷ c ∷ bs) ≡ Some (len, n) → Closed (b ∷ c ∷ bs) len n
    step far near e = elim (chosen (b == 39) (cond (c == 39) (longer 2 (closing bs)) (Some (0, 1))) (cond (is_printable b) (longer 1 (closing (c ∷ bs))) None) (len, n) e) [
      | inl p ↦ elim (chosen (c == 39) (longer 2 (closing bs)) (Some (0, 1)) (len, n) p.1) [
        | inl q ↦ (let s = split_longer 2 (closing bs) len n q.1 in closed_pair b c bs len n s.0.1 s.0.0 p.0 q.0 (far s.0.0 s.0.1 s.1) s.2 s.3)
        | inr q ↦ closed_now b (c ∷ bs) len n p.0 q.0 q.1
      ]
      | inr p ↦ elim (chosen (is_printable b) (longer 1 (closing (c ∷ bs))) None (len, n) p.1) [
        | inl q ↦ (let s = split_longer 1 (closing (c ∷ bs)) len n q.1 in closed_byte b (c ∷ bs) len n s.0.1 s.0.0 p.0 q.0 (near s.0.0 s.0.1 s.1) s.2 s.3)
        | inr q ↦ absurd (no_pair len n q.1)
      ]
    ]

text-sound : (kind : TokenKind) (n b : ℕ) (bs : List ℕ) → (b == 39) ≡ true → (r : Option (ℕ × ℕ)) → closing bs ≡ r → text_by r ≡ Some (kind, n) → Fits kind n (b ∷ bs)
text-sound kind n b bs is None f e = absurd (cc)
text-sound kind n b bs is (Some p) f e = elim (chosen (nat_le p.0 255) (Some (k.Text, p.1 + 1)) None (kind, n) e) [
  | inl q ↦ (let h = closing-sound bs p.0 p.1 f in
      let w = h.within in
      let g : suc p.1 ≡ p.1 + 1 = omega arith in
      let l = leb-true p.0 255 q.0 in
      fits (b ∷ bs) k.Text kind (p.1 + 1) n q.1 (subst (λ (j : ℕ). Fits k.Text j (b ∷ bs)) g
      (subst (λ (xs : List ℕ). IsToken k.Text xs (drop p.1 bs)) (ap (λ xs. 39 ∷ xs) (sym h.spelled) ∙ ap (λ x. x ∷ take p.1 bs) (sym (eqb-true b 39 is))) (lex.text h.value h.printable (omega (arith, h.long)) h.ends), omega arith, omega arith)))
  | inr q ↦ absurd (none q.1)
]
  where
    none : ◌≡◌ {A = Option (TokenKind × ℕ)} None (Some (kind, n)) → ⊥
    none e = cc

one-sound : (kind : TokenKind) (n b : ℕ) (bs : List ℕ) → begins (λ c. is_some (two_bytes b c)) bs ≡ false → symbol_by b None ≡ Some (kind, n) → Fits kind n (b ∷ bs)
one-sound kind n b bs alone e = go (one_byte b) refl e
  where
    go : (o : Option TokenKind) → one_byte b ≡ o → option_map {U = TokenKind × ℕ} (λ kind. (kind, 1)) o ≡ Some (kind, n) → Fits kind n (b ∷ bs)
    go None f e = absurd (cc)
    go (Some a) f e = fits (b ∷ bs) a kind 1 n e (lex.one f alone, omega arith, omega arith)

symbol-sound : (kind : TokenKind) (n b : ℕ) (bs : List ℕ) → symbol_at (b ∷ bs) ≡ Some (kind, n) → Fits kind n (b ∷ bs)
unfolding symbol_at
symbol-sound kind n b [] e = one-sound kind n b [] refl e
symbol-sound kind n b (c ∷ bs) e = go (two_bytes b c) refl e
  where
    go : (t : Option TokenKind) → two_bytes b c ≡ t → symbol_by b t ≡ Some (kind, n) → Fits kind n (b ∷ c ∷ bs)
    go (Some a) f e = fits (b ∷ c ∷ bs) a kind 2 n e (lex.two f, omega arith, omega arith)
    go None f e = one-sound kind n b (c ∷ bs) (ap is_some f) e

pub token-sound : (kind : TokenKind) (n b : ℕ) (bs : List ℕ) → token_at (b ∷ bs) ≡ Some (kind, n) → IsToken kind (take n (b ∷ bs)) (drop n (b ∷ bs)) × (1 ≤ n) × (n ≤ length (b ∷ bs))
unfolding token_at word_at text_at
token-sound kind n b bs e = elim (chosen (is_letter b) _ _ (kind, n) e) [
  | inl p ↦ word-sound kind n b bs p.0 (transition (b ∷ bs)) refl p.1
  | inr p ↦ elim (chosen (is_digit b) _ _ (kind, n) p.1) [
    | inl q ↦ integer-sound kind n b bs q.0 q.1
    | inr q ↦ elim (chosen (b == 39) _ _ (kind, n) q.1) [
      | inl t ↦ text-sound kind n b bs t.0 (closing bs) refl t.1
      | inr t ↦ symbol-sound kind n b bs t.1
    ]
  ]
]
