-- Rules in the first places of an array, with the place of each.
use Rattle.std.proofs.Common.{◌≡◌, ◌≢◌, ◌∙◌, ℕ, zero, suc, ◌+◌, ◌<◌, Bool, true, false, ◌||◌, ◌==◌, List, [], ◌∷◌, ◌++◌, length, take, filter, get_or, slice_set, refl, sym, ap, arith, eqb-true, eq-eqb, cond, inl, inr, Some, slice_get, nat_lt}
use Rattle.std.proofs.lemmas.Bool.{false≢true, or_cases, or_left, or_right, eqb-false, ltb-true, ltb-false}
use Rattle.std.proofs.lemmas.List.{get_or-set_same, get_or-set_other, get_or-take, length-take, length-take-le}
use Rattle.std.specs.List.{list_any}
use Rattle.std.proofs.lemmas.List.Folds.{list_any-append}
use Rattle.std.proofs.Math.Bool.{or-false}
use Rattle.sb_priority.proofs.Tests.{not_true, same_turned}

abbrev pub has : List ℕ → ℕ → Bool
has rules k = list_any (λ r. r == k) rules

-- a rule that isn't in a list stands at none of its places
other_at : (rules : List ℕ) (x k : ℕ) → has rules x ≡ false → k < length rules → get_or rules k 0 ≢ x
other_at [] x k none h e = absurd (omega arith)
other_at (r ∷ rules) x zero none h e = absurd (by (r == x) refl)
  where
    by : (same : Bool) → (r == x) ≡ same → ⊥
    by true q = false≢true (sym none ∙ ap (λ b. b || has rules x) q)
    by false q = eqb-false r x q e
other_at (r ∷ rules) x (suc k) none h e = other_at rules x k (by (r == x) refl) (omega arith) e
  where
    by : (same : Bool) → (r == x) ≡ same → has rules x ≡ false
    by true q = absurd (false≢true (sym none ∙ ap (λ b. b || has rules x) q))
    by false q = sym (ap (λ b. b || has rules x) q) ∙ none

-- a new rule behind the others has its place, and they keep theirs
pub placed_next : (rules places : List ℕ) (count rule : ℕ) → count < length rules → rule < length places → has (take count rules) rule ≡ false →
    ((k : ℕ) → k < count → get_or places (get_or rules k 0) 0 ≡ k) →
    (k : ℕ) → k < count + 1 → get_or (slice_set places rule count) (get_or (slice_set rules count rule) k 0) 0 ≡ k
placed_next rules places count rule low in_range new placed k h = by (k == count) refl
  where
    by : (same : Bool) → (k == count) ≡ same → get_or (slice_set places rule count) (get_or (slice_set rules count rule) k 0) 0 ≡ k
    by true e =
        let at : k ≡ count = eqb-true k count e in
        (λ i. get_or (slice_set places rule count) (get_or (slice_set rules count rule) (at i) 0) 0)
        ∙ ap (λ r. get_or (slice_set places rule count) r 0) (get_or-set_same rules count rule 0 low)
        ∙ get_or-set_same places rule count 0 in_range ∙ sym at
    by false e =
        let other = eqb-false k count e in
        let below : k < count = omega (arith, h, other) in
        let same = get_or-take count rules k 0 below in
        ap (λ r. get_or (slice_set places rule count) r 0) (get_or-set_other rules count k rule 0 other)
        ∙ get_or-set_other places rule (get_or rules k 0) count 0 (λ q. other_at (take count rules) rule k new (omega (arith, below, length-take-le count rules (omega (arith, low)))) (same ∙ q))
        ∙ placed k below

listed_at : (rules : List ℕ) (x : ℕ) → has rules x ≡ true → (k : ℕ) × (k < length rules) × (get_or rules k 0 ≡ x)
listed_at [] x h = absurd (false≢true h)
listed_at (r ∷ rules) x h =
    elim (or_cases (r == x) (has rules x) h) [
      | inl here ↦ (0, omega arith, eqb-true r x here)
      | inr there ↦ let w = listed_at rules x there in (suc w.0, omega (arith, w.1), w.2)
    ]

-- rules with different places are different
pub different : (rules places : List ℕ) (count k : ℕ) → ((j : ℕ) → j < count → get_or places (get_or rules j 0) 0 ≡ j) → k < length (take count rules) → has (take k (take count rules)) (get_or (take count rules) k 0) ≡ false
different rules places count k placed h =
    not_true (has (take k (take count rules)) (get_or (take count rules) k 0)) (λ e.
    let w = listed_at (take k (take count rules)) (get_or (take count rules) k 0) e in
    let low : k < count = omega (arith, h, length-take count rules) in
    let below : w.0 < k = omega (arith, w.1, length-take k (take count rules)) in
    let read : get_or rules w.0 0 ≡ get_or rules k 0 =
    sym (get_or-take count rules w.0 0 (omega (arith, below, low))) ∙ sym (get_or-take k (take count rules) w.0 0 below) ∙ w.2 ∙ get_or-take count rules k 0 low in
    let one : w.0 ≡ k = sym (placed w.0 (omega (arith, below, low))) ∙ ap (λ r. get_or places r 0) read ∙ placed k low in
    absurd (omega (arith, one, below)))

any_kept : (keep : ℕ → Bool) (xs : List ℕ) (x : ℕ) → has xs x ≡ false → has (filter keep xs) x ≡ false
any_kept keep [] x h = refl
any_kept keep (y ∷ xs) x h = by (keep y) (y == x) refl (any_kept keep xs x)
  where
    by : (kept same : Bool) → (y == x) ≡ same → (has xs x ≡ false → has (filter keep xs) x ≡ false) → has (cond kept (y ∷ filter keep xs) (filter keep xs)) x ≡ false
    by kept true e rest = absurd (false≢true (sym h ∙ ap (λ b. b || has xs x) e))
    by true false e rest = ap (λ b. b || has (filter keep xs) x) e ∙ rest (sym (ap (λ b. b || has xs x) e) ∙ h)
    by false false e rest = rest (sym (ap (λ b. b || has xs x) e) ∙ h)

-- what isn't in a list isn't in what is kept of it
pub not_kept : (keep : ℕ → Bool) (xs kept : List ℕ) (x y : ℕ) → kept ≡ filter keep xs → x ≡ y → has xs x ≡ false → has kept y ≡ false
not_kept keep xs kept x y is same none = (λ i. has (is i) (sym same i)) ∙ any_kept keep xs x none

-- a list with one rule more has that rule, too
pub has_last : (xs : List ℕ) (x k : ℕ) → (has xs k || (k == x)) ≡ has (xs ++ x ∷ []) k
has_last xs x k = sym (list_any-append (λ r. r == k) xs (x ∷ []) ∙ ap (λ b. has xs k || b) (or-false (x == k) ∙ same_turned x k))

-- what stands in a list is in it, and stands at some place
pub has_at : (rules : List ℕ) (k r : ℕ) → slice_get rules k ≡ Some r → has rules r ≡ true
has_at [] k r is = absurd (cc)
has_at (x ∷ rules) zero r is = or_left (x == r) (has rules r) (eq-eqb x r (some_same x r is))
  where
    some_same : (a b : ℕ) → Some a ≡ Some b → a ≡ b
    some_same a b e = cc
has_at (x ∷ rules) (suc k) r is = or_right (x == r) (has rules r) (has_at rules k r is)

pub stands : (rules : List ℕ) (x : ℕ) → has rules x ≡ true → (k : ℕ) × (slice_get rules k ≡ Some x)
stands [] x h = absurd (false≢true h)
stands (r ∷ rules) x h =
    elim (or_cases (r == x) (has rules x) h) [
      | inl here ↦ (0, ap (λ y. Some y) (eqb-true r x here))
      | inr there ↦ let w = stands rules x there in (suc w.0, w.1)
    ]

taken_at : (rules : List ℕ) (n k r : ℕ) → slice_get rules k ≡ Some r → k < n → has (take n rules) r ≡ true
taken_at [] n k r is low = absurd (cc)
taken_at (x ∷ rules) zero k r is low = absurd (omega arith)
taken_at (x ∷ rules) (suc n) zero r is low = or_left (x == r) (has (take n rules) r) (eq-eqb x r (some_same x r is))
  where
    some_same : (a b : ℕ) → Some a ≡ Some b → a ≡ b
    some_same a b e = cc
taken_at (x ∷ rules) (suc n) (suc k) r is low = or_right (x == r) (has (take n rules) r) (taken_at rules n k r is (omega arith))

read_at : (rules : List ℕ) (k r : ℕ) → slice_get rules k ≡ Some r → (k < length rules) × (get_or rules k 0 ≡ r)
read_at [] k r is = absurd (cc)
read_at (x ∷ rules) zero r is = (omega arith, some_same x r is)
  where
    some_same : (a b : ℕ) → Some a ≡ Some b → a ≡ b
    some_same a b e = cc
read_at (x ∷ rules) (suc k) r is = let w = read_at rules k r is in (omega (arith, w.0), w.1)

-- different rules have one place each
pub one_place : (rules : List ℕ) → ((k : ℕ) → k < length rules → has (take k rules) (get_or rules k 0) ≡ false) → (j k r : ℕ) → slice_get rules j ≡ Some r → slice_get rules k ≡ Some r → j ≡ k
one_place rules differ j k r at_j at_k = by (nat_lt j k) (nat_lt k j) refl refl
  where
    never : (m n : ℕ) → slice_get rules m ≡ Some r → slice_get rules n ≡ Some r → m < n → ⊥
    never m n at_m at_n low =
        let read = read_at rules n r at_n in
        false≢true (sym (differ n read.0) ∙ ap (has (take n rules)) read.1 ∙ taken_at rules n m r at_m low)

    by : (less more : Bool) → nat_lt j k ≡ less → nat_lt k j ≡ more → j ≡ k
    by true more e f = absurd (never j k at_j at_k (ltb-true j k e))
    by false true e f = absurd (never k j at_k at_j (ltb-true k j f))
    by false false e f = omega (arith, ltb-false j k e, ltb-false k j f)

-- what is in a list's kept part is in the list
pub kept_has : (keep : ℕ → Bool) (xs : List ℕ) (x : ℕ) → has (filter keep xs) x ≡ true → has xs x ≡ true
kept_has keep xs x h = by (has xs x) refl
  where
    by : (is : Bool) → has xs x ≡ is → has xs x ≡ true
    by true e = e
    by false e = absurd (false≢true (sym (any_kept keep xs x e) ∙ h))
