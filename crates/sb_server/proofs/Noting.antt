-- The tenants that are noted.
use Rattle.std.proofs.Common.{◌≡◌, sym, subst, refl, ℕ, Bool, true, false, ◌||◌, List, [], ◌∷◌}
use Rattle.std.specs.Prelude.{Contains, nat_eq}
use Rattle.std.specs.List.{list_any}
use Rattle.std.proofs.lemmas.Bool.{eqb-true, false≢true}
use Rattle.std.proofs.lemmas.List.Elements.{Contains-append_left, Contains-append_right, Contains-push}

-- one that is found is one of them
pub contains_any : (q : ℕ) (ks : List ℕ) → list_any (λ y. nat_eq y q) ks ≡ true → Contains ks q
contains_any q [] found = absurd (false≢true found)
contains_any q (k ∷ ks) found = by (nat_eq k q) refl (λ h. contains_any q ks h)
  where
    by : (b : Bool) → nat_eq k q ≡ b → (list_any (λ y. nat_eq y q) ks ≡ true → Contains ks q) → Contains (k ∷ ks) q
    by true same others =
        subst (λ (x : ℕ). Contains (x ∷ ks) q) (sym (eqb-true k q same)) (Contains-append_left (q ∷ []) ks q (Contains-push [] q))
    by false differs others =
        Contains-append_right (k ∷ []) ks q (others (subst (λ (b : Bool). (b || list_any (λ y. nat_eq y q) ks) ≡ true) differs found))
