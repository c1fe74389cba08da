-- Runs of bytes, and what a byte is.
use Rattle.std.proofs.Common.{◌≡◌, ◌≤◌, ◌+◌, ◌==◌, nat_le, ◌&&◌, ℕ, suc, Bool, true, false, cond, List, [], ◌∷◌, ◌++◌, length, drop, take, refl, ap, sym, ◌∙◌, inl, inr, arith}
use Rattle.std.proofs.lemmas.Bool.{and_from, and_parts, and_right, or_cases, or_from, or_parts, or_left, leb-true, lt-leb, eqb-true, ne_eqb}
use Rattle.std.specs.List.{prefix_len}
use Rattle.sb_postgres.specs.Bytes.{all, begins, is_blank, is_small, is_capital, is_letter, is_digit, is_word}

pub goes_on : (p : ℕ → Bool) (x : ℕ) (xs : List ℕ) → p x ≡ true → prefix_len p (x ∷ xs) ≡ suc (prefix_len p xs)
goes_on p x xs e = let f : 1 + prefix_len p xs ≡ suc (prefix_len p xs) = omega arith in ap (λ b. cond b (1 + prefix_len p xs) 0) e ∙ f

pub halts : (p : ℕ → Bool) (x : ℕ) (xs : List ℕ) → p x ≡ false → prefix_len p (x ∷ xs) ≡ 0
halts p x xs e = ap (λ b. cond b (1 + prefix_len p xs) 0) e

pub all-run : (p : ℕ → Bool) (xs : List ℕ) → all p (take (prefix_len p xs) xs) ≡ true
all-run p [] = refl
all-run p (x ∷ xs) = go (p x) refl (all-run p xs)
  where
    go : (b : Bool) → p x ≡ b → all p (take (prefix_len p xs) xs) ≡ true → all p (take (prefix_len p (x ∷ xs)) (x ∷ xs)) ≡ true
    go true e rec = ap (λ n. all p (take n (x ∷ xs))) (goes_on p x xs e) ∙ and_from _ _ e rec
    go false e rec = ap (λ n. all p (take n (x ∷ xs))) (halts p x xs e)

pub run-ends : (p : ℕ → Bool) (xs : List ℕ) → begins p (drop (prefix_len p xs) xs) ≡ false
run-ends p [] = refl
run-ends p (x ∷ xs) = go (p x) refl (run-ends p xs)
  where
    go : (b : Bool) → p x ≡ b → begins p (drop (prefix_len p xs) xs) ≡ false → begins p (drop (prefix_len p (x ∷ xs)) (x ∷ xs)) ≡ false
    go true e rec = ap (λ n. begins p (drop n (x ∷ xs))) (goes_on p x xs e) ∙ rec
    go false e rec = ap (λ n. begins p (drop n (x ∷ xs))) (halts p x xs e) ∙ e

pub run-all : (p : ℕ → Bool) (xs rest : List ℕ) → all p xs ≡ true → begins p rest ≡ false → prefix_len p (xs ++ rest) ≡ length xs
run-all p [] [] e f = refl
run-all p [] (y ∷ rest) e f = halts p y rest f
run-all p (x ∷ xs) rest e f = let s = and_parts _ _ e in goes_on p x (xs ++ rest) s.0 ∙ ap suc (run-all p xs rest s.1 f)

-- ---- what a byte is

pub letter-word : (x : ℕ) → is_letter x ≡ true → is_word x ≡ true
letter-word x e = or_left (is_letter x) (is_digit x) e

pub word-letter : (x : ℕ) → is_word x ≡ true → is_digit x ≡ false → is_letter x ≡ true
word-letter x e d = elim (or_cases (is_letter x) (is_digit x) e) [ inl l ↦ l | inr t ↦ absurd (let z : true ≡ false = sym t ∙ d in cc) ]

pub no_word : (xs : List ℕ) → begins is_letter xs ≡ false → begins is_digit xs ≡ false → begins is_word xs ≡ false
no_word [] e f = refl
no_word (x ∷ xs) e f = or_from (is_letter x) (is_digit x) e f

pub no_letter : (xs : List ℕ) → begins is_word xs ≡ false → (begins is_letter xs ≡ false) × (begins is_digit xs ≡ false)
no_letter [] e = (refl, refl)
no_letter (x ∷ xs) e = or_parts (is_letter x) (is_digit x) e

letter-large : (x : ℕ) → is_letter x ≡ true → 65 ≤ x
letter-large x e = elim (or_cases (is_small x) (is_capital x) e) [
  | inl s ↦ elim (or_cases (nat_le 97 x && nat_le x 122) (x == 95) s) [
    | inl r ↦ (let l : 97 ≤ x = leb-true 97 x (and_parts (nat_le 97 x) (nat_le x 122) r).0 in omega arith)
    | inr u ↦ (let l : x ≡ 95 = eqb-true x 95 u in omega arith)
  ]
  | inr c ↦ leb-true 65 x (and_parts _ _ c).0
]

pub digit-range : (x : ℕ) → is_digit x ≡ true → (48 ≤ x) × (x ≤ 57)
digit-range x e = let s = and_parts _ _ e in (leb-true 48 x s.0, leb-true x 57 s.1)

-- a letter is none of the bytes with which other pieces begin
pub letter-no-digit : (x : ℕ) → is_letter x ≡ true → is_digit x ≡ false
letter-no-digit x e = let l = letter-large x e in and_right _ _ (lt-leb x 57 (omega arith))

pub no_blank : (x : ℕ) → 33 ≤ x → is_blank x ≡ false
no_blank x l = or_from _ _ (ne_eqb x 32 (λ e. omega arith)) (and_right _ _ (lt-leb x 13 (omega arith)))

pub letter-no-blank : (x : ℕ) → is_letter x ≡ true → is_blank x ≡ false
letter-no-blank x e = let l = letter-large x e in no_blank x (omega arith)
