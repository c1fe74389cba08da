-- Bounds that are compared.
use Rattle.std.proofs.Common.{◌≡◌, ℕ, Bool, true, false, not, ◌&&◌, nat_eq, Option, Some, None, refl, ap, eqb-true}
use Rattle.std.proofs.lemmas.Bool.{true≢false, false≢true}
use Rattle.std.specs.Option.{option_eq}
use Rattle.sb_tenant.specs.declared.bound.Bound.{Bound}

same-work : (a b : Option ℕ) → option_eq nat_eq a b ≡ true → a ≡ b
same-work None None e = refl
same-work None (Some y) e = absurd (false≢true e)
same-work (Some x) None e = absurd (false≢true e)
same-work (Some x) (Some y) e = ap Some (eqb-true x y e)

both-true : (x y : Bool) → not (x && y) ≡ false → (x ≡ true) × (y ≡ true)
both-true true true e = (refl, refl)
both-true true false e = absurd (true≢false e)
both-true false y e = absurd (true≢false e)

-- those that don't differ are one
pub same-bound : (a b : Bound) → not (nat_eq a.considerations b.considerations && option_eq nat_eq a.work b.work) ≡ false → a ≡ b
same-bound a b e =
    let parts = both-true (nat_eq a.considerations b.considerations) (option_eq nat_eq a.work b.work) e in
    let one = eqb-true a.considerations b.considerations parts.0 in
    let other = same-work a.work b.work parts.1 in
    λ i. record { considerations = one i; work = other i }
