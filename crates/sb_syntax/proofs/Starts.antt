-- Which token a first byte begins.
use Rattle.std.proofs.Common.{◌≡◌, ◌≤◌, ◌<◌, ℕ, true, false, List, [], ◌∷◌, length, get_or, Some, None, refl, sym, ◌∙◌, is_some, arith}
use Rattle.std.proofs.lemmas.Bool.{ne_eqb}
use Rattle.sb_syntax.specs.declared.kind.TokenKind.{TokenKind}
use Rattle.sb_syntax.specs.Lex.{begins, is_letter, is_digit, one_byte, two_bytes}
use Rattle.sb_syntax.specs.Scan.{token_at, word_at, integer_at, text_at, symbol_at}
use Rattle.sb_syntax.proofs.TokenReads.{letter-at, digit-at, one-symbol, at_symbol, one-reads}

pub at_end : (xs : List ℕ) → length xs < 1 → None ≡ token_at xs
unfolding token_at
at_end [] lt = refl
at_end (b ∷ bs) lt = absurd (omega arith)

no_two : (b : ℕ) (bs : List ℕ) → (b ≡ 60 → ⊥) → (b ≡ 62 → ⊥) → begins (λ c. is_some (two_bytes b c)) bs ≡ false
no_two b [] n m = refl
no_two b (c ∷ bs) n m = rw (ne_eqb b 60 n, ne_eqb b 62 m) refl

-- a byte that no other joins
pub at_alone : (xs : List ℕ) (kind : TokenKind) → 1 ≤ length xs → one_byte (get_or xs 0 0) ≡ Some kind → (get_or xs 0 0 ≡ 60 → ⊥) → (get_or xs 0 0 ≡ 62 → ⊥) → Some (kind, 1) ≡ token_at xs
at_alone [] kind le e n m = absurd (omega arith)
at_alone (b ∷ bs) kind le e n m = sym (at_symbol b bs (one-symbol b kind e) ∙ one-reads kind b bs e (no_two b bs n m))

pub at_digit : (xs : List ℕ) → 1 ≤ length xs → is_digit (get_or xs 0 0) ≡ true → integer_at xs ≡ token_at xs
at_digit [] le e = absurd (omega arith)
at_digit (b ∷ bs) le e = sym (digit-at b bs e)

pub at_quote : (xs : List ℕ) → 1 ≤ length xs → get_or xs 0 0 ≡ 39 → text_at xs ≡ token_at xs
unfolding token_at
at_quote [] le e = absurd (omega arith)
at_quote (b ∷ bs) le e = let e' : b ≡ 39 = e in rw e' refl

pub at_letter : (xs : List ℕ) → 1 ≤ length xs → is_letter (get_or xs 0 0) ≡ true → word_at xs ≡ token_at xs
at_letter [] le e = absurd (omega arith)
at_letter (b ∷ bs) le e = sym (letter-at b bs e)

pub at_other : (xs : List ℕ) → 1 ≤ length xs → is_letter (get_or xs 0 0) ≡ false → is_digit (get_or xs 0 0) ≡ false → (get_or xs 0 0 ≡ 39 → ⊥) → symbol_at xs ≡ token_at xs
at_other [] le l d q = absurd (omega arith)
at_other (b ∷ bs) le l d q = sym (at_symbol b bs (l, d, ne_eqb b 39 q))
