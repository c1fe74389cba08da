-- Machine: the flags of a word give the word back.
use Rattle.std.proofs.Common.{◌≡◌, ℕ, zero, suc, ◌*◌, ◌/◌, ◌%◌, ◌^◌, ◌<◌, nat_eq, cond, ◌∷◌, refl, sym, ap, subst, ◌∙◌, arith}
use Rattle.std.specs.Int.{bit_at}
use Rattle.std.proofs.Math.Nat.{pow-suc}
use Rattle.std.proofs.lemmas.Nat.{div_below}
use Rattle.std.proofs.lemmas.Nat.Bits.{bit_at-suc, bit_at_lowest, bit_at-lt}
use Rattle.sb_value.specs.Flags.{flags_from, flags_of, word_of}

flags_from-suc : (n i word : ℕ) → flags_from n (suc i) word ≡ flags_from n i (word / 2)
unfolding flags_from
flags_from-suc zero i word = refl
flags_from-suc (suc n) i word = λ j. nat_eq (bit_at-suc word i j) 1 ∷ flags_from-suc n (suc i) word j

one_or_zero : (b : ℕ) → b < 2 → cond (nat_eq b 1) 1 0 ≡ b
one_or_zero zero h = refl
one_or_zero (suc zero) h = refl
one_or_zero (suc (suc b)) h = absurd (omega arith)

doubled : (n : ℕ) → 2 ^ n * 2 ≡ 2 ^ suc n
doubled n = sym (pow-suc 2 n)

half : (n word : ℕ) → word < 2 ^ suc n → word / 2 < 2 ^ n
half n word h = div_below word 2 (2 ^ n) (omega arith) (let e : 2 ^ n * 2 ≡ 2 ^ suc n = doubled n in subst (λ (m : ℕ). word < m) (sym e) h)

pub word_of-flags_from : (n word : ℕ) → word < 2 ^ n → word_of (flags_from n 0 word) ≡ word
unfolding flags_from word_of
word_of-flags_from zero word h = omega arith
word_of-flags_from (suc n) word h =
    let low : cond (nat_eq (bit_at word 0) 1) 1 0 ≡ word % 2 = one_or_zero (bit_at word 0) (bit_at-lt word 0) ∙ bit_at_lowest word in
    let high : word_of (flags_from n 1 word) ≡ word / 2 = ap word_of (flags_from-suc n 0 word) ∙ word_of-flags_from n (word / 2) (half n word h) in
    omega arith

pub word_of-flags_of : (n word : ℕ) → word < 2 ^ n → word_of (flags_of n word) ≡ word
unfolding flags_of
word_of-flags_of n word h = word_of-flags_from n word h
