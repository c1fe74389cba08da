-- A list with all numbers below n has as many elements.
use Rattle.std.proofs.Common.{◌≡◌, ◌∙◌, ℕ, zero, suc, ◌<◌, ◌≤◌, Bool, true, false, not, ◌||◌, cond, nat_eq, List, [], ◌∷◌, length, refl, sym, arith, eqb-true}
use Rattle.sb_tables.proofs.TablesHeld.{Named, has, without}

stays_by : (n k : ℕ) (e : List ℕ × ℕ) (es : Named) (b c : Bool) → nat_eq e.1 n ≡ b → nat_eq e.1 k ≡ c → (k ≡ n → ⊥) → (c ≡ false → has (without n es) k ≡ true) →
    has (cond (not b) (e ∷ without n es) (without n es)) k ≡ true
stays_by n k e es true true p q h rest = absurd (h (sym (eqb-true e.1 k q) ∙ eqb-true e.1 n p))
stays_by n k e es true false p q h rest = rest refl
stays_by n k e es false true p q h rest = λ i. q i || has (without n es) k
stays_by n k e es false false p q h rest = (λ i. q i || has (without n es) k) ∙ rest refl

stays_in : (n k : ℕ) (es : Named) → (k ≡ n → ⊥) → has es k ≡ true → has (without n es) k ≡ true
stays_in n k [] h p = p
stays_in n k (e ∷ es) h p = stays_by n k e es (nat_eq e.1 n) (nat_eq e.1 k) refl refl h (λ q. stays_in n k es h ((λ i. sym q i || has es k) ∙ p))

no_longer : (n : ℕ) (es : Named) → length (without n es) ≤ length es
no_longer n [] = omega arith
no_longer n (e ∷ es) = by (nat_eq e.1 n) (no_longer n es)
  where
    by : (b : Bool) → length (without n es) ≤ length es → length (cond (not b) (e ∷ without n es) (without n es)) ≤ suc (length es)
    by true h = omega arith
    by false h = omega arith

shorter_by : (n : ℕ) (e : List ℕ × ℕ) (es : Named) (b : Bool) → (b ≡ false → length (without n es) < length es) → length (cond (not b) (e ∷ without n es) (without n es)) < suc (length es)
shorter_by n e es true rest = omega (arith, no_longer n es)
shorter_by n e es false rest = omega (arith, rest refl)

shorter : (n : ℕ) (es : Named) → has es n ≡ true → length (without n es) < length es
shorter n [] p = absurd (cc)
shorter n (e ∷ es) p = shorter_by n e es (nat_eq e.1 n) (λ q. shorter n es ((λ i. sym q i || has es n) ∙ p))

pub as_many : (n : ℕ) (es : Named) → ((k : ℕ) → k < n → has es k ≡ true) → n ≤ length es
as_many zero es all = omega arith
as_many (suc n) es all =
    let fewer = shorter n es (all n (omega arith)) in
    let rest = as_many n (without n es) (λ k below. stays_in n k es (λ same. absurd (omega arith)) (all k (omega arith))) in
    omega arith
