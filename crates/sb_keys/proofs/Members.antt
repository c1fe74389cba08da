-- Members of the first part of a list.
use Rattle.std.proofs.Common.{◌≡◌, ◌⊎◌, ◌↔◌, ◌||◌, Bool, true, false, IsTrue, inl, inr, subst, sym, refl, ℕ, ◌+◌, ◌<◌, List, [], ◌∷◌, ◌++◌, length, take, get_or, Contains}
use Rattle.std.proofs.lemmas.List.{take_more}
use Rattle.std.proofs.lemmas.List.Elements.{Contains-append_left, Contains-push, Contains-push_cases}

either : {P Q : Type 0} (a b : Bool) → IsTrue a ↔ P → IsTrue b ↔ Q → IsTrue (a || b) ↔ (P ⊎ Q)
either true b p q = (λ _. inl (p.0 refl), λ _. refl)
either false b p q = (λ h. inr (q.0 h), λ one. elim one [ inl x ↦ absurd (let e = p.1 x in cc) | inr y ↦ q.1 y ])

-- one more element
pub more : {X : Type 0} (xs : List X) (i : ℕ) (d x : X) (has is : Bool) → i < length xs → IsTrue has ↔ Contains (take i xs) x → IsTrue is ↔ (get_or xs i d ≡ x)
    → IsTrue (has || is) ↔ Contains (take (i + 1) xs) x
more {X} xs i d x has is within so_far own =
    let P : List X → Type 0 = λ ys. IsTrue (has || is) ↔ Contains ys x in
    let both = either has is so_far own in
    subst P (sym (take_more xs i d within)) (
      λ h. elim (both.0 h) [
        | inl k ↦ Contains-append_left (take i xs) (get_or xs i d ∷ []) x k
        | inr e ↦ subst (λ (y : X). Contains (take i xs ++ y ∷ []) x) (sym e) (Contains-push (take i xs) x)
      ],
      λ h. both.1 (Contains-push_cases (take i xs) (get_or xs i d) x h),
    )
