-- Machine: the flags of words give the words back.
use Rattle.std.proofs.Common.{◌≡◌, ℕ, zero, suc, ◌^◌, ◌<◌, Bool, List, [], ◌∷◌, ◌++◌, take, drop, length, refl, sym, ap, ◌∙◌, arith}
use Rattle.sb_value.specs.Flags.{flags_from, flags_of, word_of}
use Rattle.sb_value.specs.FlagsInverse.{word_of-flags_of}
use Rattle.sb_value.specs.Words.{flags_in, words_of, AreWords}

length-flags_from : (n i word : ℕ) → length (flags_from n i word) ≡ n
unfolding flags_from
length-flags_from zero i word = refl
length-flags_from (suc n) i word = ap suc (length-flags_from n (suc i) word)

pub length-flags_of : (n word : ℕ) → length (flags_of n word) ≡ n
unfolding flags_of
length-flags_of n word = length-flags_from n 0 word

take_first : (n : ℕ) (xs ys : List Bool) → length xs ≡ n → take n (xs ++ ys) ≡ xs
take_first zero [] ys h = refl
take_first zero (x ∷ xs) ys h = absurd (omega arith)
take_first (suc n) [] ys h = absurd (omega arith)
take_first (suc n) (x ∷ xs) ys h = ap (λ t. x ∷ t) (take_first n xs ys (omega arith))

drop_first : (n : ℕ) (xs ys : List Bool) → length xs ≡ n → drop n (xs ++ ys) ≡ ys
drop_first zero [] ys h = refl
drop_first zero (x ∷ xs) ys h = absurd (omega arith)
drop_first (suc n) [] ys h = absurd (omega arith)
drop_first (suc n) (x ∷ xs) ys h = drop_first n xs ys (omega arith)

pub words_of-flags_in : (n : ℕ) (words : List ℕ) → AreWords n words → words_of n (flags_in words) ≡ words
unfolding flags_in words_of
words_of-flags_in zero words h = sym h
words_of-flags_in (suc n) [] h = absurd h
words_of-flags_in (suc n) (word ∷ words) h =
    let long = length-flags_of 64 word in
    λ i. (ap word_of (take_first 64 (flags_of 64 word) (flags_in words) long) ∙ word_of-flags_of 64 word h.0) i
    ∷ (ap (words_of n) (drop_first 64 (flags_of 64 word) (flags_in words) long) ∙ words_of-flags_in n words h.1) i
