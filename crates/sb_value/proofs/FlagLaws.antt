-- Operations on words are the operations on their flags.
use Rattle.std.proofs.Math.Bool.{not-not, or-false, and-false, or-true, and-true}
use Rattle.std.proofs.Common.{◌≡◌, ◌≢◌, ℕ, zero, suc, ◌+◌, ◌-◌, ◌*◌, nat_lt, Option, unwrap_or, ◌/◌, ◌%◌, ◌^◌, ◌<◌, ◌≤◌, max, min, Bool, true, false, not, ◌&&◌, ◌||◌, nat_eq, bit_and, bit_or, List, [], ◌∷◌, length, replicate, slice_set, refl, sym, ap, ◌∙◌, arith, ne_eqb, eqb-true}
use Rattle.std.specs.List.{list_any}
use Rattle.std.specs.Int.{bit_at, bit_not, w64, trailing_zeros}
use Rattle.std.proofs.lemmas.Nat.Bits.{bit_at_or, bit_at_and, bit_at-lt, bit_at-zero, bit_at-pow_same, bit_at-pow_other, bit_at_clear_same, bit_at_clear_other, bit_at_above, bit_at-trailing_zeros, shr_and_one}
use Rattle.std.proofs.lemmas.Nat.{one_shl, shr_le, shr-shr}
use Rattle.std.proofs.lemmas.Option.{slice_get_past}
use Rattle.std.proofs.lemmas.Bool.{eqb-false, ltb-true, ltb-false}
use Rattle.sb_value.specs.Flags.{flags_from, flags_of, word_of, no_flags, flag_at, has_none, union, intersection, share_place, IsFirstFrom}
use Rattle.sb_value.specs.FlagsInverse.{word_of-flags_of}
use Rattle.sb_value.specs.WordsInverse.{length-flags_of}

-- ---- both sets, either set

-- what two operations make the same of each two bits, they make the same of all
of_bits : (f : ℕ → ℕ → ℕ) (g : Bool → Bool → Bool) →
    nat_eq (f 0 0) 1 ≡ g false false → nat_eq (f 0 1) 1 ≡ g false true → nat_eq (f 1 0) 1 ≡ g true false → nat_eq (f 1 1) 1 ≡ g true true →
    (x y : ℕ) → x < 2 → y < 2 → nat_eq (f x y) 1 ≡ g (nat_eq x 1) (nat_eq y 1)
of_bits f g none right left both zero zero low low2 = none
of_bits f g none right left both zero (suc zero) low low2 = right
of_bits f g none right left both (suc zero) zero low low2 = left
of_bits f g none right left both (suc zero) (suc zero) low low2 = both
of_bits f g none right left both (suc (suc x)) y low low2 = absurd (omega arith)
of_bits f g none right left both x (suc (suc y)) low low2 = absurd (omega arith)

flag_or : (a b i : ℕ) → nat_eq (bit_at (bit_or a b) i) 1 ≡ (nat_eq (bit_at a i) 1 || nat_eq (bit_at b i) 1)
flag_or a b i = ap (λ x. nat_eq x 1) (bit_at_or a b i) ∙ of_bits max (λ p q. p || q) refl refl refl refl (bit_at a i) (bit_at b i) (bit_at-lt a i) (bit_at-lt b i)

flag_and : (a b i : ℕ) → nat_eq (bit_at (bit_and a b) i) 1 ≡ (nat_eq (bit_at a i) 1 && nat_eq (bit_at b i) 1)
flag_and a b i = ap (λ x. nat_eq x 1) (bit_at_and a b i) ∙ of_bits min (λ p q. p && q) refl refl refl refl (bit_at a i) (bit_at b i) (bit_at-lt a i) (bit_at-lt b i)

flags_from-or : (n i a b : ℕ) → flags_from n i (bit_or a b) ≡ union (flags_from n i a) (flags_from n i b)
unfolding flags_from
flags_from-or zero i a b = refl
flags_from-or (suc n) i a b = λ j. flag_or a b i j ∷ flags_from-or n (suc i) a b j

flags_from-and : (n i a b : ℕ) → flags_from n i (bit_and a b) ≡ intersection (flags_from n i a) (flags_from n i b)
unfolding flags_from
flags_from-and zero i a b = refl
flags_from-and (suc n) i a b = λ j. flag_and a b i j ∷ flags_from-and n (suc i) a b j

pub flags_of-or : (n a b : ℕ) → flags_of n (bit_or a b) ≡ union (flags_of n a) (flags_of n b)
unfolding flags_of
flags_of-or n a b = flags_from-or n 0 a b

pub flags_of-and : (n a b : ℕ) → flags_of n (bit_and a b) ≡ intersection (flags_of n a) (flags_of n b)
unfolding flags_of
flags_of-and n a b = flags_from-and n 0 a b

-- ---- one number

flags_from-at : (n i k word : ℕ) → k < n → flag_at (flags_from n i word) k ≡ nat_eq (bit_at word (i + k)) 1
unfolding flags_from
flags_from-at zero i k word h = absurd (omega arith)
flags_from-at (suc n) i zero word h = ap (λ j. nat_eq (bit_at word j) 1) (let e : i ≡ i + 0 = omega arith in e)
flags_from-at (suc n) i (suc k) word h =
    flags_from-at n (suc i) k word (omega arith) ∙ ap (λ j. nat_eq (bit_at word j) 1) (let e : suc i + k ≡ i + suc k = omega arith in e)

pub flag_at-flags_of : (n k word : ℕ) → k < n → nat_eq (bit_and (word / 2 ^ k) 1) 1 ≡ flag_at (flags_of n word) k
unfolding flags_of
flag_at-flags_of n k word h =
    ap (λ b. nat_eq b 1) (shr_and_one word k) ∙ sym (flags_from-at n 0 k word h ∙ ap (λ j. nat_eq (bit_at word j) 1) (let e : 0 + k ≡ k = omega arith in e))

-- where the bits of two words agree from i on, so do their flags
flags_from-same : (n i a b : ℕ) → ((j : ℕ) → i ≤ j → j < i + n → bit_at a j ≡ bit_at b j) → flags_from n i a ≡ flags_from n i b
unfolding flags_from
flags_from-same zero i a b h = refl
flags_from-same (suc n) i a b h =
    λ t. nat_eq (h i (omega arith) (omega arith) t) 1 ∷ flags_from-same n (suc i) a b (λ j low high. h j (omega arith) (omega arith)) t

-- where only bit i + k is another, only flag k is
flags_from-set : (n i k a b : ℕ) (flag : Bool) → k < n → nat_eq (bit_at b (i + k)) 1 ≡ flag → ((j : ℕ) → j ≢ i + k → j < i + n → bit_at b j ≡ bit_at a j) → flags_from n i b ≡ slice_set (flags_from n i a) k flag
unfolding flags_from
flags_from-set zero i k a b flag h e same = absurd (omega arith)
flags_from-set (suc n) i zero a b flag h e same =
    λ t. (ap (λ j. nat_eq (bit_at b j) 1) (let q : i ≡ i + 0 = omega arith in q) ∙ e) t ∷ flags_from-same n (suc i) b a (λ j low high. same j (omega arith) (omega arith)) t
flags_from-set (suc n) i (suc k) a b flag h e same =
    let q : suc i + k ≡ i + suc k = omega arith in
    λ t. nat_eq (same i (omega arith) (omega arith) t) 1
    ∷ flags_from-set n (suc i) k a b flag (omega arith) (ap (λ j. nat_eq (bit_at b j) 1) q ∙ e) (λ j other high. same j (λ x. other (x ∙ sym q)) (omega arith)) t

at_bit : (n k word : ℕ) → nat_eq (bit_at (bit_or word (2 ^ k)) (0 + k)) 1 ≡ true
at_bit n k word =
    let here : bit_at (2 ^ k) (0 + k) ≡ 1 = ap (bit_at (2 ^ k)) (let e : 0 + k ≡ k = omega arith in e) ∙ bit_at-pow_same k in
    let low : bit_at word (0 + k) < 2 = bit_at-lt word (0 + k) in
    ap (λ b. nat_eq b 1) (bit_at_or word (2 ^ k) (0 + k) ∙ (let e : max (bit_at word (0 + k)) (bit_at (2 ^ k) (0 + k)) ≡ 1 = omega arith in e))

off_bit : (k j word : ℕ) → j ≢ 0 + k → bit_at (bit_or word (2 ^ k)) j ≡ bit_at word j
off_bit k j word other =
    let none : bit_at (2 ^ k) j ≡ 0 = bit_at-pow_other k j (λ e. other (omega arith)) in
    bit_at_or word (2 ^ k) j ∙ omega arith

pub flags_of-with : (n k word : ℕ) → k < n → flags_of n (bit_or word (1 * 2 ^ k % 2 ^ n)) ≡ slice_set (flags_of n word) k true
unfolding flags_of
flags_of-with n k word h =
    ap (λ b. flags_from n 0 (bit_or word b)) (one_shl k n h)
    ∙ flags_from-set n 0 k word (bit_or word (2 ^ k)) true h (at_bit n k word) (λ j other low. off_bit k j word other)

pub flags_of-without : (k word : ℕ) → k < 64 → flags_of 64 (bit_and word (bit_not w64 (1 * 2 ^ k % 2 ^ 64))) ≡ slice_set (flags_of 64 word) k false
unfolding flags_of
flags_of-without k word h =
    flags_from-set 64 0 k word (bit_and word (bit_not w64 (1 * 2 ^ k % 2 ^ 64))) false h
    (ap (λ b. nat_eq b 1) (ap (bit_at (bit_and word (bit_not w64 (1 * 2 ^ k % 2 ^ 64)))) (let e : 0 + k ≡ k = omega arith in e) ∙ bit_at_clear_same w64 word k h))
    (λ j other low. bit_at_clear_other w64 word k h j (omega arith) (λ e. other (omega arith)))

-- ---- no number

flags_from-zero : (n i : ℕ) → flags_from n i 0 ≡ replicate n false
unfolding flags_from
flags_from-zero zero i = refl
flags_from-zero (suc n) i = λ j. nat_eq (bit_at-zero i j) 1 ∷ flags_from-zero n (suc i) j

pub flags_of-zero : (n : ℕ) → flags_of n 0 ≡ no_flags n
unfolding flags_of
flags_of-zero n = flags_from-zero n 0

none_is_zero : (flags : List Bool) → list_any (λ b. b) flags ≡ false → word_of flags ≡ 0
unfolding word_of
none_is_zero [] h = refl
none_is_zero (false ∷ flags) h = omega (arith, none_is_zero flags h)
none_is_zero (true ∷ flags) h = absurd (cc)

some_is_more : (flags : List Bool) → list_any (λ b. b) flags ≡ true → 0 < word_of flags
unfolding word_of
some_is_more [] h = absurd (cc)
some_is_more (false ∷ flags) h = omega (arith, some_is_more flags h)
some_is_more (true ∷ flags) h = omega arith

nat_eq-has_none : (flags : List Bool) (b : Bool) → list_any (λ b. b) flags ≡ b → nat_eq (word_of flags) 0 ≡ not b
nat_eq-has_none flags false h = ap (λ n. nat_eq n 0) (none_is_zero flags h)
nat_eq-has_none flags true h = ne_eqb (word_of flags) 0 (λ e. let m : 0 < word_of flags = some_is_more flags h in absurd (omega arith))

pub has_none-flags_of : (n word : ℕ) → word < 2 ^ n → nat_eq word 0 ≡ has_none (flags_of n word)
has_none-flags_of n word h =
    ap (λ m. nat_eq m 0) (sym (word_of-flags_of n word h)) ∙ nat_eq-has_none (flags_of n word) (list_any (λ b. b) (flags_of n word)) refl

pub any-intersection : (xs ys : List Bool) → list_any (λ b. b) (intersection xs ys) ≡ share_place xs ys
any-intersection [] ys = refl
any-intersection (x ∷ xs) [] = refl
any-intersection (x ∷ xs) (y ∷ ys) = ap (λ b. (x && y) || b) (any-intersection xs ys)

pub share_place-flags_of : (n a b : ℕ) → bit_and a b < 2 ^ n → not (nat_eq (bit_and a b) 0) ≡ share_place (flags_of n a) (flags_of n b)
share_place-flags_of n a b h =
    ap not (has_none-flags_of n (bit_and a b) h) ∙ not-not (list_any (λ b. b) (flags_of n (bit_and a b)))
    ∙ ap (list_any (λ b. b)) (flags_of-and n a b) ∙ any-intersection (flags_of n a) (flags_of n b)

-- ---- what is in a set after a change

pub flag_at-none : (n k : ℕ) → flag_at (replicate n false) k ≡ false
flag_at-none zero k = refl
flag_at-none (suc n) zero = refl
flag_at-none (suc n) (suc k) = flag_at-none n k

pub flag_at-union : (xs ys : List Bool) (k : ℕ) → flag_at (union xs ys) k ≡ (flag_at xs k || flag_at ys k)
flag_at-union [] ys k = refl
flag_at-union (x ∷ xs) [] k = sym (or-false (flag_at (x ∷ xs) k))
flag_at-union (x ∷ xs) (y ∷ ys) zero = refl
flag_at-union (x ∷ xs) (y ∷ ys) (suc k) = flag_at-union xs ys k

pub flag_at-intersection : (xs ys : List Bool) (k : ℕ) → flag_at (intersection xs ys) k ≡ (flag_at xs k && flag_at ys k)
flag_at-intersection [] ys k = refl
flag_at-intersection (x ∷ xs) [] k = sym (and-false (flag_at (x ∷ xs) k))
flag_at-intersection (x ∷ xs) (y ∷ ys) zero = refl
flag_at-intersection (x ∷ xs) (y ∷ ys) (suc k) = flag_at-intersection xs ys k

flag_at-here : (flags : List Bool) (i : ℕ) (b : Bool) → i < length flags → flag_at (slice_set flags i b) i ≡ b
flag_at-here [] i b h = absurd (omega arith)
flag_at-here (x ∷ flags) zero b h = refl
flag_at-here (x ∷ flags) (suc i) b h = flag_at-here flags i b (omega arith)

flag_at-there : (flags : List Bool) (i k : ℕ) (b : Bool) → k ≢ i → flag_at (slice_set flags i b) k ≡ flag_at flags k
flag_at-there [] i k b h = refl
flag_at-there (x ∷ flags) zero zero b h = absurd (h refl)
flag_at-there (x ∷ flags) zero (suc k) b h = refl
flag_at-there (x ∷ flags) (suc i) zero b h = refl
flag_at-there (x ∷ flags) (suc i) (suc k) b h = flag_at-there flags i k b (λ e. h (ap suc e))

added_by : (flags : List Bool) (i k : ℕ) (same : Bool) → i < length flags → nat_eq k i ≡ same → flag_at (slice_set flags i true) k ≡ (flag_at flags k || same)
added_by flags i k true h e = ap (flag_at (slice_set flags i true)) (eqb-true k i e) ∙ flag_at-here flags i true h ∙ sym (or-true (flag_at flags k))
added_by flags i k false h e = flag_at-there flags i k true (eqb-false k i e) ∙ sym (or-false (flag_at flags k))

taken_by : (flags : List Bool) (i k : ℕ) (same : Bool) → i < length flags → nat_eq k i ≡ same → flag_at (slice_set flags i false) k ≡ (flag_at flags k && not same)
taken_by flags i k true h e = ap (flag_at (slice_set flags i false)) (eqb-true k i e) ∙ flag_at-here flags i false h ∙ sym (and-false (flag_at flags k))
taken_by flags i k false h e = flag_at-there flags i k false (eqb-false k i e) ∙ sym (and-true (flag_at flags k))

pub flag_at-added : (flags : List Bool) (i k : ℕ) → i < length flags → flag_at (slice_set flags i true) k ≡ (flag_at flags k || nat_eq k i)
flag_at-added flags i k h = added_by flags i k (nat_eq k i) h refl

pub flag_at-taken : (flags : List Bool) (i k : ℕ) → i < length flags → flag_at (slice_set flags i false) k ≡ (flag_at flags k && not (nat_eq k i))
flag_at-taken flags i k h = taken_by flags i k (nat_eq k i) h refl

-- one number more in the flags of a word
pub flag_at-with : (n word i : ℕ) (flags new : List Bool) → flags_of n word ≡ flags → i < n → new ≡ slice_set flags i true → (k : ℕ) → flag_at new k ≡ (flag_at flags k || nat_eq k i)
flag_at-with n word i flags new is h e k =
    let long : i < length flags = omega (arith, h, length-flags_of n word, ap length is) in
    ap (λ (s : List Bool). flag_at s k) e ∙ flag_at-added flags i k long

-- ---- the first number of a set

pub flag_at-bit : (n k word : ℕ) → k < n → flag_at (flags_of n word) k ≡ nat_eq (bit_at word k) 1
unfolding flags_of
flag_at-bit n k word h = flags_from-at n 0 k word h ∙ ap (λ j. nat_eq (bit_at word j) 1) (let e : 0 + k ≡ k = omega arith in e)

pub flag_at-beyond : (n k word : ℕ) → n ≤ k → flag_at (flags_of n word) k ≡ false
flag_at-beyond n k word h = ap (λ (o : Option Bool). unwrap_or o false) (slice_get_past (flags_of n word) k (omega (arith, length-flags_of n word)))

bit_at-shifted : (word i j : ℕ) → bit_at (word / 2 ^ i) j ≡ bit_at word (i + j)
bit_at-shifted word i j = ap (λ (m : ℕ). m % 2) (shr-shr word i j)

-- where the word has no bit from i on, the set has no number from i on
pub none-from : (word i : ℕ) → word / 2 ^ i ≡ 0 → (k : ℕ) → i ≤ k → flag_at (flags_of 64 word) k ≡ false
none-from word i h k from = by (nat_lt k 64) refl
  where
    by : (b : Bool) → nat_lt k 64 ≡ b → flag_at (flags_of 64 word) k ≡ false
    by true low =
        flag_at-bit 64 k word (ltb-true k 64 low)
        ∙ ap (λ (b : ℕ). nat_eq b 1)
        (ap (bit_at word) (let e : k ≡ i + (k - i) = omega (arith, from) in e) ∙ sym (bit_at-shifted word i (k - i)) ∙ ap (λ (w : ℕ). bit_at w (k - i)) h ∙ bit_at-zero (k - i))
    by false high = flag_at-beyond 64 k word (ltb-false k 64 high)

-- the lowest bit from i on is the first number from i on
pub first-from : (word i : ℕ) → word < 2 ^ 64 → 0 < word / 2 ^ i → (i + trailing_zeros w64 (word / 2 ^ i) < 64) × IsFirstFrom i (flags_of 64 word) (i + trailing_zeros w64 (word / 2 ^ i))
first-from word i h some =
    let rest : ℕ = word / 2 ^ i in
    let low : ℕ = trailing_zeros w64 rest in
    let at = bit_at-trailing_zeros w64 rest some (let e : rest ≤ word = shr_le word i in omega (arith, e, h)) in
    let one : bit_at word (i + low) ≡ 1 = sym (bit_at-shifted word i low) ∙ at.1 in
    let in_range : i + low < 64 = within (nat_lt (i + low) 64) refl one in (
      in_range,
      record {
        from = omega arith;
        is_in = flag_at-bit 64 (i + low) word in_range ∙ ap (λ (b : ℕ). nat_eq b 1) one;
        least = λ j from below.
            flag_at-bit 64 j word (omega (arith, below, in_range))
            ∙ ap (λ (b : ℕ). nat_eq b 1)
            (ap (bit_at word) (let e : j ≡ i + (j - i) = omega (arith, from) in e) ∙ sym (bit_at-shifted word i (j - i)) ∙ at.2 (j - i) (omega (arith, from, below)));
      },
    )
  where
    within : (b : Bool) → nat_lt (i + trailing_zeros w64 (word / 2 ^ i)) 64 ≡ b → bit_at word (i + trailing_zeros w64 (word / 2 ^ i)) ≡ 1 → i + trailing_zeros w64 (word / 2 ^ i) < 64
    within true low one = ltb-true (i + trailing_zeros w64 (word / 2 ^ i)) 64 low
    within false high one = absurd (let none = bit_at_above word 64 (i + trailing_zeros w64 (word / 2 ^ i)) h (ltb-false (i + trailing_zeros w64 (word / 2 ^ i)) 64 high) in cc)
