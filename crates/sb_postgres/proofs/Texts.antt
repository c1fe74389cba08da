-- A text ends before the first zero byte.
use Rattle.std.proofs.Common.{◌≡◌, ℕ, zero, suc, Bool, true, false, cond, ltb, eqb, List, [], ◌∷◌, length, take, drop, Some, None, Result, Ok, Err, refl, sym, ap, ◌∙◌, arith}
use Rattle.std.specs.List.{position, position_or_len}
use Rattle.std.proofs.Math.Dec.{eqb-suc-zero}
use Rattle.std.proofs.lemmas.Bool.{lt-ltb, ltb-true, ltb_from_iff}
use Rattle.sb_postgres.specs.declared.error.Fault.{Fault}
use Rattle.sb_postgres.specs.declared.error.Fault.TheVariants as fault
use Rattle.sb_postgres.specs.Reading.{◌>>=◌, text_at, with_byte}

abbrev pub first_zero : List ℕ → ℕ
first_zero xs = position_or_len (λ b. eqb b 0) xs

-- what is read where the first zero stands at a place, if it is there
abbrev pub up_to : Bool → ℕ → List ℕ → Result (List ℕ × List ℕ) Fault
up_to true n xs = Ok (take n xs, drop (suc n) xs)
up_to false n xs = Err fault.Short

step : (t : Bool) (b n : ℕ) (rest : List ℕ) → (up_to t n rest >>= λ read. Ok (with_byte (suc b) read)) ≡ up_to t (suc n) (suc b ∷ rest)
step true b n rest = refl
step false b n rest = refl

same_test : (m n : ℕ) → ltb (suc m) (suc n) ≡ ltb m n
same_test m n = ltb_from_iff (λ e. let h = ltb-true (suc m) (suc n) e in omega arith, λ lt. lt-ltb (suc m) (suc n) (omega arith))

pub text_by : (xs : List ℕ) → text_at xs ≡ up_to (ltb (first_zero xs) (length xs)) (first_zero xs) xs
unfolding text_at
text_by [] = refl
text_by (zero ∷ rest) = sym (ap (λ (t : Bool). up_to t 0 (zero ∷ rest)) (lt-ltb 0 (suc (length rest)) (omega arith)))
text_by (suc b ∷ rest) =
    let t : eqb (suc b) 0 ≡ false = eqb-suc-zero b in
    let n : first_zero (suc b ∷ rest) ≡ suc (first_zero rest) = rw t (omega arith) in
    let l : ltb (suc (first_zero rest)) (suc (length rest)) ≡ ltb (first_zero rest) (length rest) = same_test (first_zero rest) (length rest) in
    let here : up_to (ltb (first_zero (suc b ∷ rest)) (length (suc b ∷ rest))) (first_zero (suc b ∷ rest)) (suc b ∷ rest) ≡ up_to (ltb (first_zero rest) (length rest)) (suc (first_zero rest)) (suc b ∷ rest)
    = rw (n, l) refl in
    ap (λ (r : Result (List ℕ × List ℕ) Fault). r >>= λ read. Ok (with_byte (suc b) read)) (text_by rest) ∙ step (ltb (first_zero rest) (length rest)) b (first_zero rest) rest ∙ sym here

-- what stands behind the byte at a place
pub behind : (n : ℕ) (xs : List ℕ) → drop 1 (drop n xs) ≡ drop (suc n) xs
behind zero [] = refl
behind zero (x ∷ xs) = refl
behind (suc n) [] = refl
behind (suc n) (x ∷ xs) = behind n xs

found : (t : Bool) (n i : ℕ) (xs : List ℕ) → cond t (Some n) None ≡ Some i → up_to t n xs ≡ Ok (take i xs, drop (suc i) xs)
found true n i xs e = let same : n ≡ i = cc in rw same refl
found false n i xs e = absurd cc

pub text_found : (xs : List ℕ) (i : ℕ) → position (λ b. eqb b 0) xs ≡ Some i → text_at xs ≡ Ok (take i xs, drop (suc i) xs)
text_found xs i e = text_by xs ∙ found (ltb (first_zero xs) (length xs)) (first_zero xs) i xs e

missing : (t : Bool) (n : ℕ) (xs : List ℕ) → cond t (Some n) None ≡ None → up_to t n xs ≡ Err fault.Short
missing true n xs e = absurd cc
missing false n xs e = refl

pub text_missing : (xs : List ℕ) → position (λ b. eqb b 0) xs ≡ None → text_at xs ≡ Err fault.Short
text_missing xs e = text_by xs ∙ missing (ltb (first_zero xs) (length xs)) (first_zero xs) xs e
