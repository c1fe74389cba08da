-- A set of places with one more.
use Rattle.std.proofs.Math.Bool.{or-false, or-true}
use Rattle.std.proofs.Common.{ℕ, zero, suc, ◌<◌, ◌≤◌, ◌≡◌, sym, ap, ◌∙◌, Bool, false, List, [], ◌∷◌, ◌++◌, map, arith}
use Rattle.std.proofs.lemmas.List.Folds.{list_any-append}
use Rattle.std.proofs.lemmas.Bool.{ne_eqb, le-ltb}
use Rattle.std.specs.Prelude.{nat_lt, ◌==◌, ◌||◌}
use Rattle.std.specs.List.{list_any}
use Rattle.sb_value.specs.Columns.{set_of, with_place}

abbrev eights : List ℕ
eights = 0 ∷ 1 ∷ 2 ∷ 3 ∷ 4 ∷ 5 ∷ 6 ∷ 7 ∷ []

-- eight flags and one more place
abbrev Added : (ℕ → Bool) → ℕ → Type 0
Added f p = with_place (map f eights) p ≡ map (λ k. f k || (p == k)) eights

added_above : (f : ℕ → Bool) (p : ℕ) → 8 ≤ p → Added f p
added_above f p h =
    let lt : nat_lt p 8 ≡ false = le-ltb p 8 h in
    let other : (k : ℕ) → k < 8 → (p == k) ≡ false = λ k low. ne_eqb p k (λ e. absurd (omega (arith, h, low, e))) in
    rw lt (sym (simp (other 0 (omega arith), other 1 (omega arith), other 2 (omega arith), other 3 (omega arith), other 4 (omega arith), other 5 (omega arith), other 6 (omega arith), other 7 (omega arith), or-false)))

added : (f : ℕ → Bool) (p : ℕ) → Added f p
added f zero = sym (simp (or-false, or-true))
added f (suc zero) = sym (simp (or-false, or-true))
added f (suc (suc zero)) = sym (simp (or-false, or-true))
added f (suc (suc (suc zero))) = sym (simp (or-false, or-true))
added f (suc (suc (suc (suc zero)))) = sym (simp (or-false, or-true))
added f (suc (suc (suc (suc (suc zero))))) = sym (simp (or-false, or-true))
added f (suc (suc (suc (suc (suc (suc zero)))))) = sym (simp (or-false, or-true))
added f (suc (suc (suc (suc (suc (suc (suc zero))))))) = sym (simp (or-false, or-true))
added f (suc (suc (suc (suc (suc (suc (suc (suc n)))))))) = added_above f (suc (suc (suc (suc (suc (suc (suc (suc n)))))))) (omega arith)

any_last : (k : ℕ) (ps : List ℕ) (p : ℕ) → list_any (λ q. q == k) (ps ++ p ∷ []) ≡ (list_any (λ q. q == k) ps || (p == k))
any_last k ps p = list_any-append (λ q. q == k) ps (p ∷ []) ∙ ap (λ b. list_any (λ q. q == k) ps || b) (or-false (p == k))

pub set_more : (ps : List ℕ) (p : ℕ) → with_place (set_of ps) p ≡ set_of (ps ++ p ∷ [])
set_more ps p = added (λ k. list_any (λ q. q == k) ps) p ∙ (λ i. map (λ k. sym (any_last k ps p) i) eights)
