-- Lines that end a session.
use Rattle.std.proofs.Common.{◌≡◌, ℕ, List, [], ◌∷◌, ◌++◌, codes}
use Rattle.sb_tenant.specs.EndLines.{AreEnds}

pub ends-one_more : (lines : List (List ℕ)) (line : List ℕ) → AreEnds lines → line ≡ codes "end" → AreEnds (lines ++ line ∷ [])
ends-one_more [] line all is = (is, tt)
ends-one_more (l ∷ ls) line (one, all) is = (one, ends-one_more ls line all is)

pub ends-front : (lines : List (List ℕ)) (line : List ℕ) → AreEnds (lines ++ line ∷ []) → AreEnds lines
ends-front [] line all = tt
ends-front (l ∷ ls) line (one, all) = (one, ends-front ls line all)

pub ends-last : (lines : List (List ℕ)) (line : List ℕ) → AreEnds (lines ++ line ∷ []) → line ≡ codes "end"
ends-last [] line (is, all) = is
ends-last (l ∷ ls) line (one, all) = ends-last ls line all
