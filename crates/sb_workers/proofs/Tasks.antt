-- Jobs at their places.
use Rattle.std.proofs.Common.{◌≡◌, ◌⊎◌, ℕ, zero, suc, ◌+◌, List, [], ◌∷◌, ◌++◌, length, Some, refl, sym, ap, ◌∙◌, ⊎_elim, inl, inr, arith}
use Rattle.std.specs.Prelude.{slice_get}
use Rattle.sb_workers.specs.declared.work.Placed.{Placed}
use Rattle.sb_workers.specs.Rule.{AreOf, InPlace, tasks_from}

module _ {A : Type 0} where
  pub get_front : (xs ys : List A) (i : ℕ) (t : A) → slice_get xs i ≡ Some t → slice_get (xs ++ ys) i ≡ Some t
  get_front [] ys i t e = absurd cc
  get_front (x ∷ xs) ys zero t e = e
  get_front (x ∷ xs) ys (suc i) t e = get_front xs ys i t e

  pub get_behind : (xs ys : List A) (i : ℕ) (t : A) → slice_get ys i ≡ Some t → slice_get (xs ++ ys) (length xs + i) ≡ Some t
  get_behind [] ys i t e = ap (slice_get ys) (omega arith) ∙ e
  get_behind (x ∷ xs) ys i t e = ap (slice_get (x ∷ (xs ++ ys))) (let k : suc (length xs) + i ≡ suc (length xs + i) = omega arith in k) ∙ get_behind xs ys i t e

  pub get-append : (xs ys : List A) (i : ℕ) (t : A) → slice_get (xs ++ ys) i ≡ Some t → (slice_get xs i ≡ Some t) ⊎ ((j : ℕ) × (i ≡ length xs + j) × (slice_get ys j ≡ Some t))
  get-append [] ys i t e = inr (i, omega arith, e)
  get-append (x ∷ xs) ys zero t e = inl e
  get-append (x ∷ xs) ys (suc i) t e = ⊎_elim (λ h. inl h) (λ h. let k : suc i ≡ suc (length xs) + h.0 = (let q = h.1 in omega arith) in inr (h.0, k, h.2)) (get-append xs ys i t e)

module _ {J : Type 0} where
  pub are_of-append : (all xs ys : List (Placed J)) → AreOf all xs → AreOf all ys → AreOf all (xs ++ ys)
  are_of-append all xs ys a b j t e = ⊎_elim (λ h. a j t h) (λ h. b h.0 t h.2) (get-append xs ys j t e)

  -- what stands in place is of its place
  pub are_of-part : (front xs rest : List (Placed J)) → InPlace (front ++ (xs ++ rest)) → AreOf (front ++ (xs ++ rest)) xs
  are_of-part front xs rest places j t e =
      let there = get_behind front (xs ++ rest) j t (get_front xs rest j t e) in
      ap (slice_get (front ++ (xs ++ rest))) (places (length front + j) t there) ∙ there

  pub in_place-snoc : (all : List (Placed J)) (x : Placed J) → InPlace all → x.place ≡ length all → InPlace (all ++ x ∷ [])
  in_place-snoc all x places is i t e = ⊎_elim (λ h. places i t h) (λ h. last h.0 h.1 h.2) (get-append all (x ∷ []) i t e)
    where
      last : (j : ℕ) → i ≡ length all + j → slice_get (x ∷ []) j ≡ Some t → t.place ≡ i
      last zero k g = let s : x ≡ t = cc in ap (λ (y : Placed J). y.place) (sym s) ∙ (is ∙ (let q : length all ≡ i = omega arith in q))
      last (suc j) k g = absurd cc

  pub length-tasks : (k : ℕ) (js : List J) → length (tasks_from k js) ≡ length js
  length-tasks k [] = refl
  length-tasks k (j ∷ js) = ap suc (length-tasks (suc k) js)

  pub tasks-snoc : (k n : ℕ) (js : List J) (j : J) → n ≡ k + length js → tasks_from k (js ++ j ∷ []) ≡ tasks_from k js ++ record { place = n; item = j } ∷ []
  tasks-snoc k n [] j e = ap (λ (m : ℕ). record { place = m; item = j } ∷ []) (let q : k ≡ n = omega arith in q)
  tasks-snoc k n (x ∷ xs) j e = ap (λ (l : List (Placed J)). record { place = k; item = x } ∷ l) (tasks-snoc (suc k) n xs j (omega arith))

  -- the task at a place is the job there
  pub tasks_at : (k : ℕ) (js : List J) (i : ℕ) (t : Placed J) → slice_get (tasks_from k js) i ≡ Some t → slice_get js i ≡ Some t.item
  tasks_at k [] i t e = absurd cc
  tasks_at k (j ∷ js) zero t e = let same : ◌≡◌ {A = Placed J} (record { place = k; item = j }) t = cc in ap (λ (y : Placed J). Some y.item) same
  tasks_at k (j ∷ js) (suc i) t e = tasks_at (suc k) js i t e
