-- What two sets share, place by place.
use Rattle.std.proofs.Common.{◌≡◌, ℕ, zero, suc, Bool, true, false, ◌&&◌, ◌||◌, List, [], ◌∷◌, drop, length, replicate, refl, sym, ap, ◌∙◌, arith}
use Rattle.std.proofs.Math.Bool.{and-false}
use Rattle.sb_value.specs.Flags.{flag_at, share_place}

none_shared : (xs : List Bool) → share_place xs [] ≡ false
none_shared [] = refl
none_shared (x ∷ xs) = refl

-- the places from i on: the first is one of both, or a later one is
pub share_place-drop : (xs ys : List Bool) (i : ℕ) → share_place (drop i xs) (drop i ys) ≡ ((flag_at xs i && flag_at ys i) || share_place (drop (suc i) xs) (drop (suc i) ys))
share_place-drop [] ys zero = refl
share_place-drop [] ys (suc i) = refl
share_place-drop (x ∷ xs) [] zero = sym (ap (λ b. b || share_place xs []) (and-false x) ∙ none_shared xs)
share_place-drop (x ∷ xs) [] (suc i) = none_shared (drop i xs) ∙ sym (ap (λ b. b || share_place (drop (suc i) xs) []) (and-false (flag_at xs i)) ∙ none_shared (drop (suc i) xs))
share_place-drop (x ∷ xs) (y ∷ ys) zero = refl
share_place-drop (x ∷ xs) (y ∷ ys) (suc i) = share_place-drop xs ys i
