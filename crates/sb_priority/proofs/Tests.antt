-- Facts on tests.
use Rattle.std.proofs.Common.{◌≡◌, ◌==◌, ℕ, eqb-true, eq-eqb, Bool, true, false, refl, sym}

pub same_test : (a b : Bool) → (a ≡ true → b ≡ true) → (b ≡ true → a ≡ true) → a ≡ b
same_test true b f g = sym (f refl)
same_test false true f g = g refl
same_test false false f g = refl

pub not_true : (b : Bool) → (b ≡ true → false ≡ true) → b ≡ false
not_true true h = sym (h refl)
not_true false h = refl

pub same_turned : (a b : ℕ) → (a == b) ≡ (b == a)
same_turned a b = same_test (a == b) (b == a) (λ e. eq-eqb b a (sym (eqb-true a b e))) (λ e. eq-eqb a b (sym (eqb-true b a e)))
