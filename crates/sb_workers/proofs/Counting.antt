-- Places and parts, counted.
use Rattle.std.proofs.Common.{◌≡◌, ℕ, zero, suc, ◌+◌, ◌≤◌, List, [], ◌∷◌, ◌++◌, set, refl, sym, ap, arith}
use mathlib.Core.Option.{some, some-ne-none, some-injective}
use lib.ListN.{get_elem?}
use Rattle.sb_workers.specs.declared.work.Placed.{Placed}
use Rattle.sb_workers.specs.declared.rule.Known.{Known}
use Rattle.sb_workers.specs.Rule.{times, total}

pub times-append : {T : Type 0} (x : ℕ) (xs ys : List (Placed T)) → times x (xs ++ ys) ≡ times x xs + times x ys
times-append x [] ys = omega arith
times-append x (t ∷ ts) ys = omega (arith, times-append x ts ys)

module _ {J : Type 0} (f : Known J → ℕ) where
  pub total-append : (xs ys : List (Known J)) → total f (xs ++ ys) ≡ total f xs + total f ys
  total-append [] ys = omega arith
  total-append (v ∷ vs) ys = omega (arith, total-append vs ys)

  pub total-set : (vs : List (Known J)) (id : ℕ) (v w : Known J) → get_elem? vs id ≡ some v → total f (set vs id w) + f v ≡ total f vs + f w
  total-set [] id v w e = absurd (some-ne-none v (sym e))
  total-set (u ∷ us) zero v w e = let s : f u ≡ f v = ap f (some-injective u v e) in omega arith
  total-set (u ∷ us) (suc id) v w e = let r = total-set us id v w e in omega arith

  pub total_at : (vs : List (Known J)) (id : ℕ) (v : Known J) → get_elem? vs id ≡ some v → f v ≤ total f vs
  total_at [] id v e = absurd (some-ne-none v (sym e))
  total_at (u ∷ us) zero v e = let s : f u ≡ f v = ap f (some-injective u v e) in omega arith
  total_at (u ∷ us) (suc id) v e = omega (arith, total_at us id v e)

module _ {J : Type 0} (f : Known J → ℕ) where
  idle : (vs : List (Known J)) → total (λ u. u.parts) vs ≡ 0 → ((j : ℕ) (u : Known J) → get_elem? vs j ≡ some u → u.parts ≡ 0 → f u ≡ 0) → total f vs ≡ 0
  idle [] none h = refl
  idle (u ∷ us) none h =
      let a = h 0 u refl (omega arith) in
      let b = idle us (omega arith) (λ j w e. h (suc j) w e) in
      omega arith

  -- the seat with every part knows the total
  pub total_known : (vs : List (Known J)) (id : ℕ) (v : Known J) → get_elem? vs id ≡ some v → total (λ u. u.parts) vs ≡ v.parts → ((j : ℕ) (u : Known J) → get_elem? vs j ≡ some u → u.parts ≡ 0 → f u ≡ 0) → total f vs ≡ f v
  total_known [] id v e all h = absurd (some-ne-none v (sym e))
  total_known (u ∷ us) zero v e all h =
      let s : f u ≡ f v = ap f (some-injective u v e) in
      let p : u.parts ≡ v.parts = ap (λ (y : Known J). y.parts) (some-injective u v e) in
      let b = idle us (omega arith) (λ j w d. h (suc j) w d) in
      omega arith
  total_known (u ∷ us) (suc id) v e all h =
      let m : v.parts ≤ total (λ (y : Known J). y.parts) us = total_at (λ (y : Known J). y.parts) us id v e in
      let a = h 0 u refl (omega arith) in
      let b = total_known us id v e (omega arith) (λ j w d. h (suc j) w d) in
      omega arith
