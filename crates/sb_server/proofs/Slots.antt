-- What stands at a place of a slab.
use Rattle.std.proofs.Common.{◌≡◌, ◌⊎◌, inl, refl, sym, subst, ℕ, Option, Some, None}
use Rattle.std.specs.Prelude.{IfSome}
use Rattle.slab.specs.Slab.{Slab, Updates, get}

module _ {X : Type 0} (P : X → Type 0) where
  -- what was put there
  pub put_there : (old new last : Slab X) (vacant key : ℕ) (x : X) → Updates old new vacant (Some x) → vacant ≡ key → last ≡ new → P x → IfSome (get last key) P
  put_there old new last vacant key x updates at same holds =
      subst (λ (s : Slab X). IfSome (get s key) P) (sym same)
      (subst (λ (k : ℕ). IfSome (get new k) P) at (subst (λ (o : Option X). IfSome o P) (sym updates.changed) holds))

  -- nothing, where it was taken out
  pub none_there : (old new last : Slab X) (key : ℕ) → Updates old new key None → last ≡ new → IfSome (get last key) P
  none_there old new last key updates same =
      subst (λ (s : Slab X). IfSome (get s key) P) (sym same) (subst (λ (o : Option X). IfSome o P) (sym updates.changed) tt)

-- what is still there
module _ {X : Type 0} where
  pub still_there : (o : Option X) (Q : X → Type 0) → IfSome o (λ x. (o ≡ Some x) ⊎ Q x)
  still_there None Q = tt
  still_there (Some x) Q = inl refl

  pub same_there : {Y : Type 0} (o : Option X) (of : X → Y) → IfSome o (λ x. IfSome o (λ y. of x ≡ of y))
  same_there None of = tt
  same_there (Some x) of = refl
