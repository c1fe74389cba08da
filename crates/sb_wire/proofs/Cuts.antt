-- What stands before and behind the first space.
use Rattle.std.proofs.Common.{◌≡◌, ℕ, zero, suc, ◌<◌, true, false, ◌==◌, List, [], ◌∷◌, length, take, drop, get_or, Some, None, refl, arith}
use Rattle.std.proofs.lemmas.Bool.{false_from_ne_true}
use Rattle.sb_wire.specs.Lines.{space, split_space}

-- a space at this place, and none before it
pub space-cut : (bytes : List ℕ) (end : ℕ) → end < length bytes → ((k : ℕ) → k < end → (get_or bytes k 0 == space) ≡ true → ⊥) → (get_or bytes end 0 == space) ≡ true
    → split_space bytes ≡ Some (take end bytes, drop (suc end) bytes)
space-cut [] end within before at = absurd (omega arith)
space-cut (b ∷ bytes) zero within before at = rw at refl
space-cut (b ∷ bytes) (suc end) within before at =
    let other : (b == space) ≡ false = false_from_ne_true (b == space) (λ e. before 0 (omega arith) e) in
    let rest : split_space bytes ≡ Some (take end bytes, drop (suc end) bytes) = space-cut bytes end (omega arith) (λ k h e. before (suc k) (omega arith) e) at in
    rw (other, rest) refl

-- no space at all
pub space-none : (bytes : List ℕ) → ((k : ℕ) → k < length bytes → (get_or bytes k 0 == space) ≡ true → ⊥) → split_space bytes ≡ None
space-none [] before = refl
space-none (b ∷ bytes) before =
    let other : (b == space) ≡ false = false_from_ne_true (b == space) (λ e. before 0 (omega arith) e) in
    let rest : split_space bytes ≡ None = space-none bytes (λ k h e. before (suc k) (omega arith) e) in
    rw (other, rest) refl
