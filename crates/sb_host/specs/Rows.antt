-- Machine: what a list of rows has at a place.
use Rattle.std.proofs.Common.{◌≡◌, ℕ, zero, suc, ◌<◌, ◌≤◌, List, [], ◌∷◌, length, get_or, Vec, refl, sym, ap, ◌∙◌, arith}
use Rattle.std.specs.Global.{Global}
use Rattle.sb_host.specs.Finish.{row_at}

module _ {A : Type 0} where
  -- past the end there is none
  pub row_past : (rows : List (Vec A Global)) (n : ℕ) → length rows ≤ n → row_at rows n ≡ []
  row_past [] n h = refl
  row_past (v ∷ vs) zero h = absurd (omega arith)
  row_past (v ∷ vs) (suc n) h = row_past vs n (omega arith)

  -- the list at its place
  pub row_read : (rows : List (Vec A Global)) (n : ℕ) (v : Vec A Global) → n < length rows → v ≡ get_or rows n v → row_at rows n ≡ v.items
  row_read rows n v below is = at rows n below ∙ ap (λ (w : Vec A Global). w.items) (sym is)
    where
      at : (ws : List (Vec A Global)) (k : ℕ) → k < length ws → row_at ws k ≡ (get_or ws k v).items
      at [] k h = absurd (omega arith)
      at (w ∷ ws) zero h = refl
      at (w ∷ ws) (suc k) h = at ws k (omega arith)
