-- Promise: lists that go side by side.
use Rattle.std.specs.Prelude.{◌≡◌, ℕ, ◌+◌, List, [], ◌∷◌, ◌++◌, ⊤}

-- two lists of one length, place by place, from the place k on
abbrev pub AllFrom : {A B : Type 0} → (ℕ → A → B → Type 0) → ℕ → List A → List B → Type 0
AllFrom R k [] [] = ⊤
AllFrom R k [] (y ∷ ys) = ⊥
AllFrom R k (x ∷ xs) [] = ⊥
AllFrom R k (x ∷ xs) (y ∷ ys) = R k x y × AllFrom R (k + 1) xs ys

-- two lists of one length, and a third that is cut into as many parts, one for each pair
abbrev pub AllCut : {A B C : Type 0} → (A → B → List C → Type 0) → List A → List B → List C → Type 0
AllCut R [] [] zs = zs ≡ []
AllCut R [] (y ∷ ys) zs = ⊥
AllCut R (x ∷ xs) [] zs = ⊥
AllCut {C = C} R (x ∷ xs) (y ∷ ys) zs = (own rest : List C) × (zs ≡ own ++ rest) × R x y own × AllCut R xs ys rest
