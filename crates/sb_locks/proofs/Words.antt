-- What the words' operations do to the sessions that stand in them.
use Rattle.std.proofs.Common.{◌≡◌, ℕ, zero, suc, ◌+◌, ◌*◌, ◌%◌, ◌^◌, ◌<◌, ◌≤◌, max, Bool, true, false, not, ◌&&◌, ◌||◌, nat_eq, bit_and, bit_or, List, [], ◌∷◌, length, get_or, set, refl, sym, ap, ◌∙◌, arith, eqb-true, ne_eqb, get_or-set_same, get_or-set_other, eq-or-lt_of_le, ne_of_lt, inl, inr, true≢false, leb, leb-true, leb-false}
use Rattle.std.proofs.Math.Bool.{and-true, and-false, or-true, or-false}
use Rattle.std.specs.Int.Bits.{and_lt}
use Rattle.std.proofs.lemmas.Nat.{or_lt}
use Rattle.std.specs.List.{list_any}
use Rattle.std.specs.Int.{bit_at, bit_not, w8}
use Rattle.std.proofs.lemmas.Bool.{eqb-false, or_parts}
use Rattle.std.proofs.lemmas.Nat.Bits.{bit_at_or, bit_at_and, bit_at-lt, bit_at-zero, bit_at_set_same, bit_at_set_other, bit_at_clear_same, bit_at_clear_other, bit_at_above, same_from_bits_below}
use Rattle.sb_value.specs.Locks.{sessions}

-- ---- one session

has_joined_by : (n k i : ℕ) (same : Bool) → k < 8 → nat_eq i k ≡ same → nat_eq (bit_at (bit_or n (1 * 2 ^ k % 2 ^ 8)) i) 1 ≡ (nat_eq (bit_at n i) 1 || same)
has_joined_by n k i true h e =
    let here : bit_at (bit_or n (1 * 2 ^ k % 2 ^ 8)) i ≡ 1 = ap (bit_at (bit_or n (1 * 2 ^ k % 2 ^ 8))) (eqb-true i k e) ∙ bit_at_set_same w8 n k h in
    ap (λ b. nat_eq b 1) here ∙ sym (or-true (nat_eq (bit_at n i) 1))
has_joined_by n k i false h e =
    ap (λ b. nat_eq b 1) (bit_at_set_other w8 n k h i (eqb-false i k e)) ∙ sym (or-false (nat_eq (bit_at n i) 1))

none_above : (n m i : ℕ) → n < 2 ^ 8 → 8 ≤ i → bit_at (bit_and n m) i ≡ 0
none_above n m i h above = bit_at_and n m i ∙ (let z : bit_at n i ≡ 0 = bit_at_above n 8 i h above in omega arith)

has_left_by : (n k i : ℕ) (same inside : Bool) → n < 2 ^ 8 → k < 8 → nat_eq i k ≡ same → leb 8 i ≡ inside →
    nat_eq (bit_at (bit_and n (bit_not w8 (1 * 2 ^ k % 2 ^ 8))) i) 1 ≡ (not same && nat_eq (bit_at n i) 1)
has_left_by n k i true inside h g e f =
    ap (λ b. nat_eq b 1) (ap (bit_at (bit_and n (bit_not w8 (1 * 2 ^ k % 2 ^ 8)))) (eqb-true i k e) ∙ bit_at_clear_same w8 n k g)
has_left_by n k i false true h g e f =
    let above : 8 ≤ i = leb-true 8 i f in
    ap (λ b. nat_eq b 1) (none_above n (bit_not w8 (1 * 2 ^ k % 2 ^ 8)) i h above ∙ sym (bit_at_above n 8 i h above))
has_left_by n k i false false h g e f =
    ap (λ b. nat_eq b 1) (bit_at_clear_other w8 n k g i (leb-false 8 i f) (eqb-false i k e))

-- without a session's bit that session is gone
pub has_left : (n k i : ℕ) → n < 2 ^ 8 → k < 8 →
    nat_eq (bit_at (bit_and n (bit_not w8 (1 * 2 ^ k % 2 ^ 8))) i) 1 ≡ (not (nat_eq i k) && nat_eq (bit_at n i) 1)
has_left n k i h g = has_left_by n k i (nat_eq i k) (leb 8 i) h g refl refl

joined_by : (words : List ℕ) (t u k s : ℕ) (same : Bool) → t < length words → k < 8 → nat_eq t u ≡ same →
    nat_eq (bit_at (get_or (set words t (bit_or (get_or words t 0) (1 * 2 ^ k % 2 ^ 8))) u 0) s) 1
    ≡ (nat_eq (bit_at (get_or words u 0) s) 1 || (nat_eq s k && same))
joined_by words t u k s true h g e =
    let w = bit_or (get_or words t 0) (1 * 2 ^ k % 2 ^ 8) in
    let at : u ≡ t = sym (eqb-true t u e) in
    let here : get_or (set words t w) u 0 ≡ w = ap (λ (j : ℕ). get_or (set words t w) j 0) at ∙ get_or-set_same words t w 0 h in
    ap (λ (n : ℕ). nat_eq (bit_at n s) 1) here
    ∙ has_joined_by (get_or words t 0) k s (nat_eq s k) g refl
    ∙ (λ i. nat_eq (bit_at (get_or words (sym at i) 0) s) 1 || sym (and-true (nat_eq s k)) i)
joined_by words t u k s false h g e =
    let w = bit_or (get_or words t 0) (1 * 2 ^ k % 2 ^ 8) in
    ap (λ (n : ℕ). nat_eq (bit_at n s) 1) (get_or-set_other words t u w 0 (λ q. eqb-false t u e (sym q)))
    ∙ sym (ap (λ b. nat_eq (bit_at (get_or words u 0) s) 1 || b) (and-false (nat_eq s k)) ∙ or-false (nat_eq (bit_at (get_or words u 0) s) 1))

-- with a session's bit in one word that session is in that word, too
pub joined : (words : List ℕ) (t k s u : ℕ) → t < length words → k < 8 →
    nat_eq (bit_at (get_or (set words t (bit_or (get_or words t 0) (1 * 2 ^ k % 2 ^ 8))) u 0) s) 1
    ≡ (nat_eq (bit_at (get_or words u 0) s) 1 || (nat_eq s k && nat_eq t u))
joined words t k s u h g = joined_by words t u k s (nat_eq t u) h g refl

-- ---- any session

same_any : (f g : ℕ → Bool) → ((x : ℕ) → f x ≡ g x) → list_any f sessions ≡ list_any g sessions
same_any f g h = ap (λ (p : ℕ → Bool). list_any p sessions) (λ i x. h x i)

count_from : ℕ → ℕ → List ℕ
count_from zero i = []
count_from (suc n) i = i ∷ count_from n (suc i)

no_bit : (b : ℕ) → b < 2 → nat_eq b 1 ≡ false → b ≡ 0
no_bit zero h e = refl
no_bit (suc zero) h e = absurd (cc)
no_bit (suc (suc b)) h e = absurd (omega arith)

none_of : (n i x : ℕ) → list_any (λ o. nat_eq (bit_at x o) 1) (count_from n i) ≡ false → (j : ℕ) → i ≤ j → j < i + n → bit_at x j ≡ 0
unfolding count_from
none_of zero i x h j low high = absurd (omega arith)
none_of (suc n) i x h j low high =
    let first : bit_at x i ≡ 0 = no_bit (bit_at x i) (bit_at-lt x i) (or_parts _ _ h).0 in
    let others : list_any (λ o. nat_eq (bit_at x o) 1) (count_from n (suc i)) ≡ false = (or_parts (nat_eq (bit_at x i) 1) _ h).1 in
    elim (eq-or-lt_of_le low) [
      | inl e ↦ ap (bit_at x) (sym e) ∙ first
      | inr l ↦ none_of n (suc i) x others j (omega arith) (omega arith)
    ]

any_bit_by : (x : ℕ) (b : Bool) → x < 2 ^ 8 → list_any (λ o. nat_eq (bit_at x o) 1) sessions ≡ b → not (nat_eq x 0) ≡ b
unfolding count_from
any_bit_by x false h e =
    ap (λ n. not (nat_eq n 0)) (same_from_bits_below 8 x 0 h (omega arith) (λ i below. none_of 8 0 x e i (omega arith) (omega arith) ∙ sym (bit_at-zero i)))
any_bit_by x true h e =
    ap not (ne_eqb x 0 (λ z. true≢false (sym e ∙ same_any (λ o. nat_eq (bit_at x o) 1) (λ o. false) (λ o. ap (λ n. nat_eq (bit_at n o) 1) z ∙ ap (λ n. nat_eq n 1) (bit_at-zero o)))))

-- a word of holders without one session is some other session's
pub any_other : (n k : ℕ) → n < 2 ^ 8 → k < 8 →
    not (nat_eq (bit_and n (bit_not w8 (1 * 2 ^ k % 2 ^ 8))) 0) ≡ list_any (λ o. not (nat_eq o k) && nat_eq (bit_at n o) 1) sessions
any_other n k h g =
    let rest = bit_and n (bit_not w8 (1 * 2 ^ k % 2 ^ 8)) in
    any_bit_by rest _ (and_lt 8 n (bit_not w8 (1 * 2 ^ k % 2 ^ 8)) h (omega arith)) refl
    ∙ same_any (λ o. nat_eq (bit_at rest o) 1) (λ o. not (nat_eq o k) && nat_eq (bit_at n o) 1) (λ o. has_left n k o h g)

max_is_one : (x y : ℕ) → x < 2 → y < 2 → nat_eq (max x y) 1 ≡ (nat_eq x 1 || nat_eq y 1)
max_is_one zero zero g h = refl
max_is_one zero (suc zero) g h = refl
max_is_one (suc zero) zero g h = refl
max_is_one (suc zero) (suc zero) g h = refl
max_is_one (suc (suc x)) y g h = absurd (omega arith)
max_is_one x (suc (suc y)) g h = absurd (omega arith)

-- of two words of holders, either has the session
pub has_either : (a b i : ℕ) → nat_eq (bit_at (bit_or a b) i) 1 ≡ (nat_eq (bit_at a i) 1 || nat_eq (bit_at b i) 1)
has_either a b i = ap (λ x. nat_eq x 1) (bit_at_or a b i) ∙ max_is_one (bit_at a i) (bit_at b i) (bit_at-lt a i) (bit_at-lt b i)

pub any_other_of_either : (a b k : ℕ) → a < 2 ^ 8 → b < 2 ^ 8 → k < 8 →
    not (nat_eq (bit_and (bit_or a b) (bit_not w8 (1 * 2 ^ k % 2 ^ 8))) 0)
    ≡ list_any (λ o. not (nat_eq o k) && (nat_eq (bit_at a o) 1 || nat_eq (bit_at b o) 1)) sessions
any_other_of_either a b k g h j =
    any_other (bit_or a b) k (or_lt 8 a b g h) j
    ∙ same_any (λ o. not (nat_eq o k) && nat_eq (bit_at (bit_or a b) o) 1) (λ o. not (nat_eq o k) && (nat_eq (bit_at a o) 1 || nat_eq (bit_at b o) 1)) (λ o. ap (λ x. not (nat_eq o k) && x) (has_either a b o))

-- ---- the words one after another

pub left_more : (words old : List ℕ) (i k : ℕ) → i < length words → k < 8 → get_or words i 0 < 2 ^ 8 → get_or words i 0 ≡ get_or old i 0 →
    ((t s : ℕ) → t < i → nat_eq (bit_at (get_or words t 0) s) 1 ≡ (not (nat_eq s k) && nat_eq (bit_at (get_or old t 0) s) 1)) →
    (t s : ℕ) → t < i + 1 → nat_eq (bit_at (get_or (set words i (bit_and (get_or words i 0) (bit_not w8 (1 * 2 ^ k % 2 ^ 8)))) t 0) s) 1 ≡ (not (nat_eq s k) && nat_eq (bit_at (get_or old t 0) s) 1)
left_more words old i k h g small same before t s below =
    let w = bit_and (get_or words i 0) (bit_not w8 (1 * 2 ^ k % 2 ^ 8)) in
    elim (eq-or-lt_of_le (let q : t ≤ i = omega arith in q)) [
      | inl e ↦
          ap (λ (n : ℕ). nat_eq (bit_at n s) 1) (ap (λ (j : ℕ). get_or (set words i w) j 0) e ∙ get_or-set_same words i w 0 h)
          ∙ has_left (get_or words i 0) k s small g
          ∙ ap (λ (n : ℕ). not (nat_eq s k) && nat_eq (bit_at n s) 1) (same ∙ ap (λ (j : ℕ). get_or old j 0) (sym e))
      | inr l ↦ ap (λ (n : ℕ). nat_eq (bit_at n s) 1) (get_or-set_other words i t w 0 (ne_of_lt l)) ∙ before t s l
    ]
