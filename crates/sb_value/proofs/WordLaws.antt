-- Sets in several words: what holds of the flags of one word holds of theirs.
use Rattle.std.proofs.Common.{◌≡◌, ℕ, zero, suc, ◌+◌, ◌-◌, ◌*◌, ◌/◌, ◌%◌, ◌^◌, ◌<◌, ◌≤◌, nat_lt, nat_eq, Bool, true, false, ◌&&◌, ◌||◌, List, [], ◌∷◌, ◌++◌, length, slice_set, slice_index_or, bit_and, bit_or, refl, sym, ap, subst, ◌∙◌, arith, ne_eqb}
use Rattle.std.proofs.lemmas.Bool.{ltb-true, ltb-false}
use Rattle.std.proofs.lemmas.List.{length-append, set-append_left, set-append_right}
use Rattle.std.proofs.lemmas.Nat.{or_lt, and_le_l, le_or_l}
use Rattle.std.specs.Int.Bits.{or_zero_l}
use Rattle.sb_value.specs.Flags.{flags_of, flag_at, has_none, union, intersection, IsFirstFrom}
use Rattle.sb_value.specs.Words.{flags_in, AreWords}
use Rattle.sb_value.specs.WordsInverse.{length-flags_of}
use Rattle.sb_value.proofs.FlagLaws.{flags_of-or, flags_of-and, has_none-flags_of}

-- ---- two lists of flags, one behind the other

flag_at-left : (xs ys : List Bool) (k : ℕ) → k < length xs → flag_at (xs ++ ys) k ≡ flag_at xs k
flag_at-left [] ys k h = absurd (omega arith)
flag_at-left (x ∷ xs) ys zero h = refl
flag_at-left (x ∷ xs) ys (suc k) h = flag_at-left xs ys k (omega arith)

flag_at-past : (xs ys : List Bool) (k : ℕ) → length xs ≤ k → flag_at (xs ++ ys) k ≡ flag_at ys (k - length xs)
flag_at-past [] ys k h = ap (flag_at ys) (let e : k ≡ k - length {A = Bool} [] = omega arith in e)
flag_at-past (x ∷ xs) ys zero h = absurd (omega arith)
flag_at-past (x ∷ xs) ys (suc k) h = flag_at-past xs ys k (omega arith) ∙ ap (flag_at ys) (let e : k - length xs ≡ suc k - length (x ∷ xs) = omega arith in e)

flag_at-behind : (n : ℕ) (xs ys : List Bool) (k : ℕ) → length xs ≡ n → n ≤ k → flag_at (xs ++ ys) k ≡ flag_at ys (k - n)
flag_at-behind n xs ys k long h = flag_at-past xs ys k (omega (arith, long, h)) ∙ ap (λ (m : ℕ). flag_at ys (k - m)) long

union-append : (xs ys us vs : List Bool) → length xs ≡ length us → union (xs ++ ys) (us ++ vs) ≡ union xs us ++ union ys vs
union-append [] ys [] vs h = refl
union-append [] ys (u ∷ us) vs h = absurd (omega arith)
union-append (x ∷ xs) ys [] vs h = absurd (omega arith)
union-append (x ∷ xs) ys (u ∷ us) vs h = ap (λ t. (x || u) ∷ t) (union-append xs ys us vs (omega arith))

intersection-append : (xs ys us vs : List Bool) → length xs ≡ length us → intersection (xs ++ ys) (us ++ vs) ≡ intersection xs us ++ intersection ys vs
intersection-append [] ys [] vs h = refl
intersection-append [] ys (u ∷ us) vs h = absurd (omega arith)
intersection-append (x ∷ xs) ys [] vs h = absurd (omega arith)
intersection-append (x ∷ xs) ys (u ∷ us) vs h = ap (λ t. (x && u) ∷ t) (intersection-append xs ys us vs (omega arith))

has_none-append : (xs ys : List Bool) → has_none (xs ++ ys) ≡ (has_none xs && has_none ys)
has_none-append [] ys = refl
has_none-append (true ∷ xs) ys = refl
has_none-append (false ∷ xs) ys = has_none-append xs ys

-- ---- words, one after another

as_long : (a b : ℕ) → length (flags_of 64 a) ≡ length (flags_of 64 b)
as_long a b = length-flags_of 64 a ∙ sym (length-flags_of 64 b)

pub word_below : (n : ℕ) (words : List ℕ) (i : ℕ) → AreWords n words → slice_index_or words i 0 < 2 ^ 64
word_below zero words i h = subst (λ (ws : List ℕ). slice_index_or ws i 0 < 2 ^ 64) (sym h) (omega arith)
word_below (suc n) [] i h = absurd h
word_below (suc n) (word ∷ words) zero h = h.0
word_below (suc n) (word ∷ words) (suc i) h = word_below n words i h.1

pub are_words-set : (n : ℕ) (words : List ℕ) (i word : ℕ) → AreWords n words → word < 2 ^ 64 → AreWords n (slice_set words i word)
are_words-set zero words i word h low = subst (λ (ws : List ℕ). slice_set ws i word ≡ []) (sym h) refl
are_words-set (suc n) [] i word h low = absurd h
are_words-set (suc n) (w ∷ words) zero word h low = (low, h.1)
are_words-set (suc n) (w ∷ words) (suc i) word h low = (h.0, are_words-set n words i word h.1 low)

pub length-flags_in : (n : ℕ) (words : List ℕ) → AreWords n words → length (flags_in words) ≡ n * 64
unfolding flags_in
length-flags_in zero words h = ap (λ (ws : List ℕ). length (flags_in ws)) h
length-flags_in (suc n) [] h = absurd h
length-flags_in (suc n) (word ∷ words) h = omega (arith, length-append (flags_of 64 word) (flags_in words), length-flags_in n words h.1, length-flags_of 64 word)

near : (k : ℕ) → k < 64 → (0 ≡ k / 64) × (k ≡ k % 64)
near k h = (omega (arith, h), omega (arith, h))

far : (k : ℕ) → 64 ≤ k → (suc ((k - 64) / 64) ≡ k / 64) × ((k - 64) % 64 ≡ k % 64)
far k h = (omega (arith, h), omega (arith, h))

-- a flag stands in the word of its place
pub flag_at-flags_in : (n : ℕ) (words : List ℕ) (k : ℕ) → AreWords n words → k < n * 64 → flag_at (flags_in words) k ≡ flag_at (flags_of 64 (slice_index_or words (k / 64) 0)) (k % 64)
unfolding flags_in
flag_at-flags_in zero words k h low = absurd (omega arith)
flag_at-flags_in (suc n) [] k h low = absurd h
flag_at-flags_in (suc n) (w ∷ words) k h low = by (nat_lt k 64) refl (λ past. flag_at-flags_in n words (k - 64) h.1 (omega (arith, low, past)))
  where
    long : length (flags_of 64 w) ≡ 64
    long = length-flags_of 64 w

    by : (b : Bool) → nat_lt k 64 ≡ b → (64 ≤ k → flag_at (flags_in words) (k - 64) ≡ flag_at (flags_of 64 (slice_index_or words ((k - 64) / 64) 0)) ((k - 64) % 64)) →
        flag_at (flags_of 64 w ++ flags_in words) k ≡ flag_at (flags_of 64 (slice_index_or (w ∷ words) (k / 64) 0)) (k % 64)
    by true below rest =
        let here = near k (ltb-true k 64 below) in
        flag_at-left (flags_of 64 w) (flags_in words) k (omega (arith, long, ltb-true k 64 below)) ∙ (λ i. flag_at (flags_of 64 (slice_index_or (w ∷ words) (here.0 i) 0)) (here.1 i))
    by false beyond rest =
        let past : 64 ≤ k = ltb-false k 64 beyond in
        let there = far k past in
        flag_at-behind 64 (flags_of 64 w) (flags_in words) k long past
        ∙ rest past
        ∙ (λ i. flag_at (flags_of 64 (slice_index_or (w ∷ words) (there.0 i) 0)) (there.1 i))

-- with a flag set in the word of its place, it is set in all
pub flags_in-set : (n : ℕ) (words : List ℕ) (k word : ℕ) (flag : Bool) → AreWords n words → k < n * 64 →
    flags_of 64 word ≡ slice_set (flags_of 64 (slice_index_or words (k / 64) 0)) (k % 64) flag → flags_in (slice_set words (k / 64) word) ≡ slice_set (flags_in words) k flag
unfolding flags_in
flags_in-set zero words k word flag h low is = absurd (omega arith)
flags_in-set (suc n) [] k word flag h low is = absurd h
flags_in-set (suc n) (w ∷ words) k word flag h low is = by (nat_lt k 64) refl (λ past. flags_in-set n words (k - 64) word flag h.1 (omega (arith, low, past)))
  where
    long : length (flags_of 64 w) ≡ 64
    long = length-flags_of 64 w

    by : (b : Bool) → nat_lt k 64 ≡ b
        → (64 ≤ k → flags_of 64 word ≡ slice_set (flags_of 64 (slice_index_or words ((k - 64) / 64) 0)) ((k - 64) % 64) flag → flags_in (slice_set words ((k - 64) / 64) word) ≡ slice_set (flags_in words) (k - 64) flag)
        → flags_in (slice_set (w ∷ words) (k / 64) word) ≡ slice_set (flags_of 64 w ++ flags_in words) k flag
    by true below rest =
        let here = near k (ltb-true k 64 below) in
        (λ i. flags_in (slice_set (w ∷ words) (sym here.0 i) word))
        ∙ ap (λ (xs : List Bool). xs ++ flags_in words) (is ∙ (λ i. slice_set (flags_of 64 (slice_index_or (w ∷ words) (sym here.0 i) 0)) (sym here.1 i) flag))
        ∙ sym (set-append_left (flags_of 64 w) (flags_in words) k flag (omega (arith, long, ltb-true k 64 below)))
    by false beyond rest =
        let past : 64 ≤ k = ltb-false k 64 beyond in
        let there = far k past in
        (λ i. flags_in (slice_set (w ∷ words) (sym there.0 i) word))
        ∙ ap (λ (xs : List Bool). flags_of 64 w ++ xs)
        (rest past (is ∙ (λ i. slice_set (flags_of 64 (slice_index_or (w ∷ words) (sym there.0 i) 0)) (sym there.1 i) flag)))
        ∙ sym (set-append_right (flags_of 64 w) (flags_in words) 64 k flag long past)

-- ---- four words

pub four : (words : List ℕ) → AreWords 4 words → words ≡ slice_index_or words 0 0 ∷ slice_index_or words 1 0 ∷ slice_index_or words 2 0 ∷ slice_index_or words 3 0 ∷ []
four [] h = absurd h
four (a ∷ []) h = absurd h.1
four (a ∷ b ∷ []) h = absurd h.1.1
four (a ∷ b ∷ c ∷ []) h = absurd h.1.1.1
four (a ∷ b ∷ c ∷ d ∷ rest) h = ap (λ (t : List ℕ). a ∷ b ∷ c ∷ d ∷ t) h.1.1.1.1

abbrev pub both : (ℕ → ℕ → ℕ) → List ℕ → List ℕ → List ℕ
both f [] ys = []
both f (x ∷ xs) [] = []
both f (x ∷ xs) (y ∷ ys) = f x y ∷ both f xs ys

-- a word of either set, and one of both, has 64 bits again
pub or_below : (xs ys : List ℕ) (i : ℕ) → AreWords 4 xs → AreWords 4 ys → bit_or (slice_index_or xs i 0) (slice_index_or ys i 0) < 2 ^ 64
or_below xs ys i h k = or_lt 64 _ _ (word_below 4 xs i h) (word_below 4 ys i k)

pub and_below : (xs ys : List ℕ) (i : ℕ) → AreWords 4 xs → bit_and (slice_index_or xs i 0) (slice_index_or ys i 0) < 2 ^ 64
and_below xs ys i h = omega (arith, and_le_l (slice_index_or xs i 0) (slice_index_or ys i 0), word_below 4 xs i h)

-- an operation on words is one on their flags, place by place
pub record IsWordwise (f : ℕ → ℕ → ℕ) (g : List Bool → List Bool → List Bool) : Type 0 where
  pub none : g [] [] ≡ []
  pub append : (xs ys us vs : List Bool) → length xs ≡ length us → g (xs ++ ys) (us ++ vs) ≡ g xs us ++ g ys vs
  pub flags : (x y : ℕ) → flags_of 64 (f x y) ≡ g (flags_of 64 x) (flags_of 64 y)

pub or_is_wordwise : IsWordwise bit_or union
or_is_wordwise = record { none = refl; append = union-append; flags = flags_of-or 64 }

pub and_is_wordwise : IsWordwise bit_and intersection
and_is_wordwise = record { none = refl; append = intersection-append; flags = flags_of-and 64 }

flags_in-both : (f : ℕ → ℕ → ℕ) (g : List Bool → List Bool → List Bool) → IsWordwise f g → (n : ℕ) (xs ys : List ℕ) → AreWords n xs → AreWords n ys → flags_in (both f xs ys) ≡ g (flags_in xs) (flags_in ys)
unfolding flags_in
flags_in-both f g is zero xs ys h k = (λ i. flags_in (both f (h i) (k i))) ∙ sym ((λ i. g (flags_in (h i)) (flags_in (k i))) ∙ is.none)
flags_in-both f g is (suc n) [] ys h k = absurd h
flags_in-both f g is (suc n) (x ∷ xs) [] h k = absurd k
flags_in-both f g is (suc n) (x ∷ xs) (y ∷ ys) h k =
    (λ i. is.flags x y i ++ flags_in-both f g is n xs ys h.1 k.1 i) ∙ sym (is.append (flags_of 64 x) (flags_in xs) (flags_of 64 y) (flags_in ys) (as_long x y))

-- the four words of such an operation on two sets
abbrev pub four_of : (ℕ → ℕ → ℕ) → List ℕ → List ℕ → List ℕ
four_of f xs ys = f (slice_index_or xs 0 0) (slice_index_or ys 0 0) ∷ f (slice_index_or xs 1 0) (slice_index_or ys 1 0) ∷ f (slice_index_or xs 2 0) (slice_index_or ys 2 0) ∷ f (slice_index_or xs 3 0) (slice_index_or ys 3 0) ∷ []

four_both : (f : ℕ → ℕ → ℕ) (xs ys : List ℕ) → AreWords 4 xs → AreWords 4 ys → four_of f xs ys ≡ both f xs ys
four_both f xs ys h k = sym (λ i. both f (four xs h i) (four ys k i))

pub flags_in-four : (f : ℕ → ℕ → ℕ) (g : List Bool → List Bool → List Bool) → IsWordwise f g → (xs ys : List ℕ) → AreWords 4 xs → AreWords 4 ys → flags_in (four_of f xs ys) ≡ g (flags_in xs) (flags_in ys)
flags_in-four f g is xs ys h k = ap flags_in (four_both f xs ys h k) ∙ flags_in-both f g is 4 xs ys h k

-- ---- no number, the first number

pub has_none-word : (word : ℕ) (words : List ℕ) → word < 2 ^ 64 → has_none (flags_in (word ∷ words)) ≡ (nat_eq word 0 && has_none (flags_in words))
unfolding flags_in
has_none-word word words h = has_none-append (flags_of 64 word) (flags_in words) ∙ ap (λ b. b && has_none (flags_in words)) (sym (has_none-flags_of 64 word h))

or_none : (x y : ℕ) → nat_eq (bit_or x y) 0 ≡ (nat_eq x 0 && nat_eq y 0)
or_none zero y = ap (λ n. nat_eq n 0) (or_zero_l y)
or_none (suc x) y = ne_eqb (bit_or (suc x) y) 0 (λ e. absurd (omega (arith, le_or_l (suc x) y, e))) ∙ sym (ap (λ t. t && nat_eq y 0) (ne_eqb (suc x) 0 (λ e. absurd (omega (arith, e)))))

four_none : (p q r s : Bool) → (((p && q) && r) && s) ≡ (p && (q && (r && (s && true))))
four_none true true true true = refl
four_none true true true false = refl
four_none true true false s = refl
four_none true false r s = refl
four_none false q r s = refl

-- four words have no bit where no flag is set
pub no_bits : (a b c d : ℕ) → a < 2 ^ 64 → b < 2 ^ 64 → c < 2 ^ 64 → d < 2 ^ 64 → nat_eq (bit_or (bit_or (bit_or a b) c) d) 0 ≡ has_none (flags_in (a ∷ b ∷ c ∷ d ∷ []))
unfolding flags_in
no_bits a b c d ha hb hc hd =
    or_none (bit_or (bit_or a b) c) d
    ∙ ap (λ t. t && nat_eq d 0) (or_none (bit_or a b) c ∙ ap (λ t. t && nat_eq c 0) (or_none a b))
    ∙ four_none (nat_eq a 0) (nat_eq b 0) (nat_eq c 0) (nat_eq d 0)
    ∙ sym (has_none-word a (b ∷ c ∷ d ∷ []) ha
    ∙ ap (λ t. nat_eq a 0 && t) (has_none-word b (c ∷ d ∷ []) hb
    ∙ ap (λ t. nat_eq b 0 && t) (has_none-word c (d ∷ []) hc
    ∙ ap (λ t. nat_eq c 0 && t) (has_none-word d [] hd))))

abbrev pub NoneFrom : ℕ → List Bool → Type 0
NoneFrom n flags = (k : ℕ) → n ≤ k → flag_at flags k ≡ false

at_word : (word : ℕ) (words : List ℕ) (k : ℕ) → k < 64 → flag_at (flags_in (word ∷ words)) k ≡ flag_at (flags_of 64 word) k
unfolding flags_in
at_word word words k h = flag_at-left (flags_of 64 word) (flags_in words) k (omega (arith, h, length-flags_of 64 word))

behind_word : (word : ℕ) (words : List ℕ) (k : ℕ) → 64 ≤ k → flag_at (flags_in (word ∷ words)) k ≡ flag_at (flags_in words) (k - 64)
unfolding flags_in
behind_word word words k h = flag_at-behind 64 (flags_of 64 word) (flags_in words) k (length-flags_of 64 word) h

pub none_from-word : (n m word : ℕ) (words : List ℕ) → m ≡ n - 64 → NoneFrom n (flags_of 64 word) → NoneFrom m (flags_in words) → NoneFrom n (flags_in (word ∷ words))
none_from-word n m word words is none rest k from = by (nat_lt k 64) refl
  where
    by : (b : Bool) → nat_lt k 64 ≡ b → flag_at (flags_in (word ∷ words)) k ≡ false
    by true low = at_word word words k (ltb-true k 64 low) ∙ none k from
    by false high = behind_word word words k (ltb-false k 64 high) ∙ rest (k - 64) (omega (arith, from, is))

pub first_in-word : (n word : ℕ) (words : List ℕ) (k : ℕ) → k < 64 → IsFirstFrom n (flags_of 64 word) k → IsFirstFrom n (flags_in (word ∷ words)) k
first_in-word n word words k h first = record {
  from = first.from;
  is_in = at_word word words k h ∙ first.is_in;
  least = λ j from below. at_word word words j (omega (arith, below, h)) ∙ first.least j from below;
}

pub first_behind-word : (n m word : ℕ) (words : List ℕ) (k : ℕ) → m ≡ n - 64 → NoneFrom n (flags_of 64 word) → IsFirstFrom m (flags_in words) k → IsFirstFrom n (flags_in (word ∷ words)) (64 + k)
first_behind-word n m word words k is none first = record {
  from = omega (arith, first.from, is);
  is_in = behind_word word words (64 + k) (omega arith) ∙ ap (flag_at (flags_in words)) (let e : (64 + k) - 64 ≡ k = omega arith in e) ∙ first.is_in;
  least = λ j from below. by j from below (nat_lt j 64) refl;
}
  where
    by : (j : ℕ) → n ≤ j → j < 64 + k → (b : Bool) → nat_lt j 64 ≡ b → flag_at (flags_in (word ∷ words)) j ≡ false
    by j from below true low = at_word word words j (ltb-true j 64 low) ∙ none j from
    by j from below false high =
        let past : 64 ≤ j = ltb-false j 64 high in
        behind_word word words j past ∙ first.least (j - 64) (omega (arith, from, is)) (omega (arith, below, past))

-- the flags of a set's i-th word
abbrev pub word_flags : List ℕ → ℕ → List Bool
word_flags words i = flags_of 64 (slice_index_or words i 0)

in_four : (words : List ℕ) (n k at : ℕ) → AreWords 4 words → k ≡ at →
    IsFirstFrom n (flags_in (slice_index_or words 0 0 ∷ slice_index_or words 1 0 ∷ slice_index_or words 2 0 ∷ slice_index_or words 3 0 ∷ [])) at → IsFirstFrom n (flags_in words) k
in_four words n k at h is first =
    subst (λ (ws : List ℕ). IsFirstFrom n (flags_in ws) k) (sym (four words h)) (subst (λ (m : ℕ). IsFirstFrom n (flags_in (slice_index_or words 0 0 ∷ slice_index_or words 1 0 ∷ slice_index_or words 2 0 ∷ slice_index_or words 3 0 ∷ [])) m) (sym is) first)

pub first_in_first : (words : List ℕ) (n k : ℕ) → AreWords 4 words → k < 64 → IsFirstFrom n (word_flags words 0) k → IsFirstFrom n (flags_in words) k
first_in_first words n k h low first = in_four words n k k h refl (first_in-word n (slice_index_or words 0 0) (slice_index_or words 1 0 ∷ slice_index_or words 2 0 ∷ slice_index_or words 3 0 ∷ []) k low first)

pub first_in_second : (words : List ℕ) (n m k : ℕ) → AreWords 4 words → m ≡ n - 64 → NoneFrom n (word_flags words 0) → k < 64 → IsFirstFrom m (word_flags words 1) k → IsFirstFrom n (flags_in words) (64 + k)
first_in_second words n m k h is none low first =
    in_four words n (64 + k) (64 + k) h refl
    (first_behind-word n m (slice_index_or words 0 0) (slice_index_or words 1 0 ∷ slice_index_or words 2 0 ∷ slice_index_or words 3 0 ∷ []) k is none
    (first_in-word m (slice_index_or words 1 0) (slice_index_or words 2 0 ∷ slice_index_or words 3 0 ∷ []) k low first))

pub first_in_third : (words : List ℕ) (n m o k : ℕ) → AreWords 4 words → m ≡ n - 64 → o ≡ m - 64 → NoneFrom n (word_flags words 0) → NoneFrom m (word_flags words 1) → k < 64 → IsFirstFrom o (word_flags words 2) k → IsFirstFrom n (flags_in words) (128 + k)
first_in_third words n m o k h is then none none2 low first =
    in_four words n (128 + k) (64 + (64 + k)) h (omega arith)
    (first_behind-word n m (slice_index_or words 0 0) (slice_index_or words 1 0 ∷ slice_index_or words 2 0 ∷ slice_index_or words 3 0 ∷ []) (64 + k) is none
    (first_behind-word m o (slice_index_or words 1 0) (slice_index_or words 2 0 ∷ slice_index_or words 3 0 ∷ []) k then none2
    (first_in-word o (slice_index_or words 2 0) (slice_index_or words 3 0 ∷ []) k low first)))

pub first_in_fourth : (words : List ℕ) (n m o p k : ℕ) → AreWords 4 words → m ≡ n - 64 → o ≡ m - 64 → p ≡ o - 64 → NoneFrom n (word_flags words 0) → NoneFrom m (word_flags words 1) → NoneFrom o (word_flags words 2)
    → k < 64 → IsFirstFrom p (word_flags words 3) k → IsFirstFrom n (flags_in words) (192 + k)
first_in_fourth words n m o p k h is then last none none2 none3 low first =
    in_four words n (192 + k) (64 + (64 + (64 + k))) h (omega arith)
    (first_behind-word n m (slice_index_or words 0 0) (slice_index_or words 1 0 ∷ slice_index_or words 2 0 ∷ slice_index_or words 3 0 ∷ []) (64 + (64 + k)) is none
    (first_behind-word m o (slice_index_or words 1 0) (slice_index_or words 2 0 ∷ slice_index_or words 3 0 ∷ []) (64 + k) then none2
    (first_behind-word o p (slice_index_or words 2 0) (slice_index_or words 3 0 ∷ []) k last none3
    (first_in-word p (slice_index_or words 3 0) [] k low first))))

pub none_in_four : (words : List ℕ) (n m o p : ℕ) → AreWords 4 words → m ≡ n - 64 → o ≡ m - 64 → p ≡ o - 64 → NoneFrom n (word_flags words 0) → NoneFrom m (word_flags words 1) → NoneFrom o (word_flags words 2) → NoneFrom p (word_flags words 3) → NoneFrom n (flags_in words)
unfolding flags_in
none_in_four words n m o p h is then last none none2 none3 none4 =
    subst (λ (ws : List ℕ). NoneFrom n (flags_in ws)) (sym (four words h))
    (none_from-word n m (slice_index_or words 0 0) (slice_index_or words 1 0 ∷ slice_index_or words 2 0 ∷ slice_index_or words 3 0 ∷ []) is none
    (none_from-word m o (slice_index_or words 1 0) (slice_index_or words 2 0 ∷ slice_index_or words 3 0 ∷ []) then none2
    (none_from-word o p (slice_index_or words 2 0) (slice_index_or words 3 0 ∷ []) last none3
    (none_from-word p (p - 64) (slice_index_or words 3 0) [] refl none4 (λ k from. refl)))))
