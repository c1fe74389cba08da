-- A list whose numbers rise is the only one of its permutations in which they don't fall.
use Rattle.std.proofs.Common.{◌≡◌, ℕ, suc, zero, ◌+◌, ◌<◌, ◌≤◌, cond, List, [], ◌∷◌, length, get_or, map, Contains, inl, inr, ◌⊎◌, refl, sym, ap, ◌∙◌, ltb, arith}
use Rattle.std.specs.List.Sorted.{IsPermutation, IsNonDecreasingBy}
use Rattle.std.proofs.lemmas.Bool.{cases_order, lt-ltb, le-ltb}
use Rattle.std.proofs.lemmas.List.{get_or_default, same_lists}
use Rattle.std.proofs.lemmas.List.Recursion.{is_sum_by}
use Rattle.std.proofs.lemmas.List.Sorted.{Contains-permutation, IsNonDecreasingBy-drop, IsPermutation-map, length_permutation, sum_by-IsPermutation}

-- ---- numbers that don't fall

-- from m on
abbrev pub UpFrom : ℕ → List ℕ → Type 0
UpFrom m [] = Unit {0}
UpFrom m (n ∷ ns) = (m ≤ n) × UpFrom n ns

abbrev total : (ℕ → ℕ) → List ℕ → ℕ
total f [] = 0
total f (n ∷ ns) = f n + total f ns

-- 1 of a number below k
abbrev low : ℕ → ℕ → ℕ
low k n = cond (ltb n k) 1 0

none_low : (k m : ℕ) → k ≤ m → (ns : List ℕ) → UpFrom m ns → total (low k) ns ≡ 0
none_low k m far [] up = refl
none_low k m far (n ∷ ns) up =
    let here : low k n ≡ 0 = ap (λ b. cond b 1 0) (le-ltb n k (omega (arith, up.0))) in
    omega (arith, here, none_low k n (omega (arith, up.0)) ns up.1)

-- where x is below y, they don't begin two lists of the same numbers
apart : (x y : ℕ) (xs ys : List ℕ) → x < y → UpFrom y ys → total (low y) (x ∷ xs) ≡ total (low y) (y ∷ ys) → ⊥
apart x y xs ys h up same =
    let here : low y x ≡ 1 = ap (λ b. cond b 1 0) (lt-ltb x y h) in
    let there : low y y ≡ 0 = ap (λ b. cond b 1 0) (le-ltb y y (omega arith)) in
    omega (arith, here, there, same, none_low y y (omega arith) ys up)

one_order : (m n : ℕ) (xs ys : List ℕ) → UpFrom m xs → UpFrom n ys → ((f : ℕ → ℕ) → total f xs ≡ total f ys) → xs ≡ ys
one_order m n [] [] up up' same = refl
one_order m n [] (y ∷ ys) up up' same = absurd (omega (arith, same (λ k. 1)))
one_order m n (x ∷ xs) [] up up' same = absurd (omega (arith, same (λ k. 1)))
one_order m n (x ∷ xs) (y ∷ ys) up up' same = by (cases_order x y) (λ e. one_order x y xs ys up.1 up'.1 (λ f. omega (arith, same f, ap f e)))
  where
    by : (x ≡ y) ⊎ ((x < y) ⊎ (y < x)) → (x ≡ y → xs ≡ ys) → x ∷ xs ≡ y ∷ ys
    by (inl e) rest = (λ i. e i ∷ rest e i)
    by (inr (inl h)) rest = absurd (apart x y xs ys h up'.1 (same (low y)))
    by (inr (inr h)) rest = absurd (apart y x ys xs h up.1 (sym (same (low x))))

-- ---- lists with numbers

module _ {X : Type 0} (n : X → ℕ) where
  -- from m on, each is above the one before
  abbrev pub RisesFrom : ℕ → List X → Type 0
  RisesFrom m [] = Unit {0}
  RisesFrom m (x ∷ xs) = (m ≤ n x) × RisesFrom (suc (n x)) xs

  rises_up : (m : ℕ) (xs : List X) → RisesFrom m xs → UpFrom m (map n xs)
  rises_up m [] h = tt
  rises_up m (x ∷ xs) h = (h.0, weaker (map n xs) (rises_up (suc (n x)) xs h.1))
    where
      weaker : (ns : List ℕ) → UpFrom (suc (n x)) ns → UpFrom (n x) ns
      weaker [] up = tt
      weaker (k ∷ ns) up = (omega (arith, up.0), up.1)

  at_least : (m : ℕ) (xs : List X) → RisesFrom m xs → (j : ℕ) (d : X) → j < length xs → m ≤ n (get_or xs j d)
  at_least m [] h j d b = absurd (omega arith)
  at_least m (x ∷ xs) h zero d b = h.0
  at_least m (x ∷ xs) h (suc j) d b = omega (arith, h.0, at_least (suc (n x)) xs h.1 j d (omega arith))

  rises_at : (m : ℕ) (xs : List X) → RisesFrom m xs → (i j : ℕ) (d : X) → i < j → j < length xs → n (get_or xs i d) < n (get_or xs j d)
  rises_at m [] h i j d a b = absurd (omega arith)
  rises_at m (x ∷ xs) h i zero d a b = absurd (omega arith)
  rises_at m (x ∷ xs) h zero (suc j) d a b = omega (arith, at_least (suc (n x)) xs h.1 j d (omega arith))
  rises_at m (x ∷ xs) h (suc i) (suc j) d a b = rises_at (suc (n x)) xs h.1 i j d (omega arith) (omega arith)

  up_from : (m : ℕ) (xs : List X) → IsNonDecreasingBy n xs → ((d : X) → 0 < length xs → m ≤ n (get_or xs 0 d)) → UpFrom m (map n xs)
  up_from m [] up h = tt
  up_from m (x ∷ xs) up h = (h x (omega arith), up_from (n x) xs (IsNonDecreasingBy-drop n 1 (x ∷ xs) up) (λ d b. up 0 1 d (omega arith) (omega arith)))

  same_totals : (xs ys : List X) → IsPermutation xs ys → (f : ℕ → ℕ) → total f (map n xs) ≡ total f (map n ys)
  same_totals xs ys perm f =
      is_sum_by (total f) f refl (λ _ _. refl) (map n xs)
      ∙ sym (sum_by-IsPermutation f (map n xs) (map n ys) (IsPermutation-map n xs ys perm))
      ∙ sym (is_sum_by (total f) f refl (λ _ _. refl) (map n ys))

  number_at : (xs ys : List X) → map n xs ≡ map n ys → (k : ℕ) (d : X) → n (get_or xs k d) ≡ n (get_or ys k d)
  number_at [] [] e k d = refl
  number_at [] (y ∷ ys) e k d = absurd (cc)
  number_at (x ∷ xs) [] e k d = absurd (cc)
  number_at (x ∷ xs) (y ∷ ys) e zero d = cc
  number_at (x ∷ xs) (y ∷ ys) e (suc k) d = number_at xs ys (cc) k d

  -- two places with one number are one
  one_place : (m : ℕ) (ys : List X) → RisesFrom m ys → (j k : ℕ) (d : X) → j < length ys → k < length ys → n (get_or ys j d) ≡ n (get_or ys k d) → j ≡ k
  one_place m ys rises j k d a b e = by (cases_order j k)
    where
      by : (j ≡ k) ⊎ ((j < k) ⊎ (k < j)) → j ≡ k
      by (inl is) = is
      by (inr (inl h)) = absurd (omega (arith, rises_at m ys rises j k d h b, e))
      by (inr (inr h)) = absurd (omega (arith, rises_at m ys rises k j d h a, e))

  pub only_rising : (m : ℕ) (xs ys : List X) → IsPermutation xs ys → IsNonDecreasingBy n xs → RisesFrom m ys → xs ≡ ys
  only_rising m xs ys perm up rises = same_lists xs ys (sym as_long) at
    where
      as_long : length ys ≡ length xs
      as_long = length_permutation xs ys perm

      numbers : map n xs ≡ map n ys
      numbers = one_order 0 m (map n xs) (map n ys) (up_from 0 xs up (λ d b. omega arith)) (rises_up m ys rises) (same_totals xs ys perm)

      at : (k : ℕ) (d : X) → k < length xs → get_or xs k d ≡ get_or ys k d
      at k d below =
          let x : X = get_or xs k d in
          let found : Contains ys x = Contains-permutation xs ys x perm (k, below, get_or_default xs k x d below) in
          let within : k < length ys = omega (arith, as_long) in
          let one = one_place m ys rises found.0 k x found.1 within (ap n found.2 ∙ ap n (get_or_default xs k d x below) ∙ number_at xs ys numbers k x) in
          sym found.2 ∙ ap (λ (j : ℕ). get_or ys j x) one ∙ get_or_default ys k x d within
