-- A loop that changes the elements of a list one after another.
use Rattle.std.proofs.Common.{◌≡◌, ◌≤◌, ◌<◌, ℕ, ◌+◌, List, length, get_or, set, ◌∙◌, inl, inr, subst, refl, sym, length-set, le_refl, arith}
use Rattle.std.proofs.lemmas.Bool.{cases_eq}
use Rattle.std.proofs.lemmas.List.{get_or-set_same, get_or-set_other}

-- the first k elements are what f says, and the others are still those of the first list
pub record IsChanged {X : Type 0} (f : ℕ → X) (d : X) (first : List X) (k : ℕ) (xs : List X) : Type 0 where
  pub long : length xs ≡ length first
  pub done : (j : ℕ) → j < k → get_or xs j d ≡ f j
  pub rest : (j : ℕ) → k ≤ j → get_or xs j d ≡ get_or first j d

pub unchanged : {X : Type 0} (f : ℕ → X) (d : X) (xs : List X) → IsChanged f d xs 0 xs
unchanged f d xs = record { long = refl; done = λ j h. absurd (omega arith); rest = λ j h. refl }

pub changed_more : {X : Type 0} (f : ℕ → X) (d : X) (first : List X) (k : ℕ) (xs : List X) (v : X) → IsChanged f d first k xs → k < length first → v ≡ f k → IsChanged f d first (k + 1) (set xs k v)
changed_more f d first k xs v so within is = record {
  long = length-set xs k v ∙ so.long;
  done = λ j h. elim (cases_eq j k) [
    | inl e ↦ subst (λ i. get_or (set xs k v) i d ≡ f i) (sym e) (get_or-set_same xs k v d (omega (arith, so.long)) ∙ is)
    | inr n ↦ get_or-set_other xs k j v d n ∙ so.done j (omega (arith, n))
  ];
  rest = λ j h. get_or-set_other xs k j v d (λ e. omega (arith, e)) ∙ so.rest j (omega arith);
}

-- the next one to be changed is still the first list's
pub next_unchanged : {X : Type 0} (f : ℕ → X) (d : X) (first : List X) (k : ℕ) (xs : List X) → IsChanged f d first k xs → get_or xs k d ≡ get_or first k d
next_unchanged f d first k xs so = so.rest k (le_refl k)
