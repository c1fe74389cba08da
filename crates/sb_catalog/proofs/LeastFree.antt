-- The least number that a list lacks.
use Rattle.std.proofs.Common.{◌≡◌, ◌∙◌, ◌⊎◌, ℕ, zero, suc, ◌+◌, ◌<◌, ◌≤◌, Bool, true, false, not, ◌||◌, cond, nat_eq, List, [], ◌∷◌, filter, length, refl, sym, ap, arith, eqb-true, inl, inr}
use Rattle.std.proofs.lemmas.Bool.{cases_eq}
use Rattle.std.specs.List.{list_any}
use Rattle.sb_catalog.specs.Rules.{least_free_from, least_free, IsLeastFree}

abbrev pub has : List ℕ → ℕ → Bool
has used k = list_any (λ u. nat_eq u k) used

-- ---- a list with all numbers below n has as many elements

abbrev lacking : ℕ → List ℕ → List ℕ
lacking n used = filter (λ u. not (nat_eq u n)) used

stays_by : (n k u : ℕ) (used : List ℕ) (b c : Bool) → nat_eq u n ≡ b → nat_eq u k ≡ c → (k ≡ n → ⊥) → (c ≡ false → has (lacking n used) k ≡ true) →
    has (cond (not b) (u ∷ lacking n used) (lacking n used)) k ≡ true
stays_by n k u used true true p q h rest = absurd (h (sym (eqb-true u k q) ∙ eqb-true u n p))
stays_by n k u used true false p q h rest = rest refl
stays_by n k u used false true p q h rest = λ i. q i || has (lacking n used) k
stays_by n k u used false false p q h rest = (λ i. q i || has (lacking n used) k) ∙ rest refl

stays_in : (n k : ℕ) (used : List ℕ) → (k ≡ n → ⊥) → has used k ≡ true → has (lacking n used) k ≡ true
stays_in n k [] h e = e
stays_in n k (u ∷ used) h e =
    stays_by n k u used (nat_eq u n) (nat_eq u k) refl refl h (λ q. stays_in n k used h ((λ i. sym q i || has used k) ∙ e))

no_longer : (n : ℕ) (used : List ℕ) → length (lacking n used) ≤ length used
no_longer n [] = omega arith
no_longer n (u ∷ used) = by (nat_eq u n) (no_longer n used)
  where
    by : (b : Bool) → length (lacking n used) ≤ length used → length (cond (not b) (u ∷ lacking n used) (lacking n used)) ≤ suc (length used)
    by true h = omega arith
    by false h = omega arith

shorter_by : (n u : ℕ) (used : List ℕ) (b : Bool) → (b ≡ false → length (lacking n used) < length used) → length (cond (not b) (u ∷ lacking n used) (lacking n used)) < suc (length used)
shorter_by n u used true rest = omega (arith, no_longer n used)
shorter_by n u used false rest = omega (arith, rest refl)

shorter : (n : ℕ) (used : List ℕ) → has used n ≡ true → length (lacking n used) < length used
shorter n [] e = absurd (cc)
shorter n (u ∷ used) e = shorter_by n u used (nat_eq u n) (λ p. shorter n used ((λ i. sym p i || has used n) ∙ e))

pub as_many : (n : ℕ) (used : List ℕ) → ((k : ℕ) → k < n → has used k ≡ true) → n ≤ length used
as_many zero used all = omega arith
as_many (suc n) used all =
    let fewer = shorter n used (all n (omega arith)) in
    let rest = as_many n (lacking n used) (λ k below. stays_in n k used (λ same. absurd (omega arith)) (all k (omega arith))) in
    omega arith

-- ---- the least number

-- all numbers from k to m are in the list, and m is not, or there is no try left for it
found_by : (n k m : ℕ) (used : List ℕ) → (k ≡ m) ⊎ (k ≡ m → ⊥) → has used m ≡ false → ((k ≡ m → ⊥) → has used k ≡ true) → ((k ≡ m → ⊥) → least_free_from n (k + 1) used ≡ m) →
    cond (has used k) (least_free_from n (k + 1) used) k ≡ m
found_by n k m used (inl same) none some rest = (λ i. cond ((ap (has used) same ∙ none) i) (least_free_from n (k + 1) used) k) ∙ same
found_by n k m used (inr other) none some rest = (λ i. cond (some other i) (least_free_from n (k + 1) used) k) ∙ rest other

-- all numbers from k to m are in the list, and m is not
found_from : (n k m : ℕ) (used : List ℕ) → k ≤ m → m ≤ k + n → ((j : ℕ) → k ≤ j → j < m → has used j ≡ true) → has used m ≡ false → least_free_from n k used ≡ m
found_from zero k m used low high all none = omega arith
found_from (suc n) k m used low high all none =
    found_by n k m used (cases_eq k m) none
    (λ other. all k (omega arith) (omega arith))
    (λ other. found_from n (k + 1) m used (omega arith) (omega arith) (λ j from below. all j (omega arith) below) none)

pub least : (m : ℕ) (used : List ℕ) → ((k : ℕ) → k < m → has used k ≡ true) → has used m ≡ false → least_free used ≡ m
least m used all none = found_from (length used) 0 m used (omega arith) (omega (arith, as_many m used all)) (λ j from below. all j below) none

-- a list that is no longer than n and has all numbers below n lacks n
pub lacks_next : (n : ℕ) (used : List ℕ) → length used ≤ n → ((k : ℕ) → k < n → has used k ≡ true) → has used n ≡ false
lacks_next n used short all = by (has used n) refl
  where
    next : has used n ≡ true → (k : ℕ) → (k ≡ n) ⊎ (k ≡ n → ⊥) → k < suc n → has used k ≡ true
    next e k (inl same) below = ap (has used) same ∙ e
    next e k (inr other) below = all k (omega arith)

    by : (b : Bool) → has used n ≡ b → b ≡ false
    by false e = refl
    by true e = absurd (omega (arith, as_many (suc n) used (λ k below. next e k (cases_eq k n) below)))

-- ---- it is the least one

one_more : (n : ℕ) (used : List ℕ) → ((k : ℕ) → k < n → has used k ≡ true) → has used n ≡ true → (k : ℕ) → (k ≡ n) ⊎ (k ≡ n → ⊥) → k < n + 1 → has used k ≡ true
one_more n used all e k (inl same) below = ap (has used) same ∙ e
one_more n used all e k (inr other) below = all k (omega arith)

least_by : (n k : ℕ) (used : List ℕ) (b : Bool) → has used k ≡ b → ((j : ℕ) → j < k → has used j ≡ true)
    → (has used k ≡ true → IsLeastFree used (least_free_from n (k + 1) used)) → IsLeastFree used (cond b (least_free_from n (k + 1) used) k)
least_by n k used true e all rest = rest e
least_by n k used false e all rest = record { free = e; least = all }

least_from : (n k : ℕ) (used : List ℕ) → length used ≤ k + n → ((j : ℕ) → j < k → has used j ≡ true) → IsLeastFree used (least_free_from n k used)
least_from zero k used short all = record { free = lacks_next k used (omega arith) all; least = all }
least_from (suc n) k used short all =
    least_by n k used (has used k) refl all
    (λ e. least_from n (k + 1) used (omega arith) (λ j below. one_more k used all e j (cases_eq j k) below))

pub is_least : (used : List ℕ) → IsLeastFree used (least_free used)
is_least used = least_from (length used) 0 used (omega arith) (λ j below. absurd (omega arith))

pub is_few : (used : List ℕ) → least_free used ≤ length used
is_few used = as_many (least_free used) used (is_least used).least
