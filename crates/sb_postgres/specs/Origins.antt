-- Promise: where each byte of a line stands in the text.
use Rattle.std.specs.Prelude.{◌≡◌, ◌⊎◌, ℕ, Bool, true, ◌||◌, ◌==◌, List, [], ◌∷◌, slice_get, IsSomeAnd}
use Rattle.sb_postgres.specs.Bytes.{is_blank, folded}

-- a blank, the first byte of a comment, the quote of a name, or a parenthesis around actions
abbrev pub is_gap : ℕ → Bool
is_gap c = is_blank c || (c == 45 || (c == 47 || (c == 34 || (c == 40 || c == 41))))

-- a byte of the text is that of the line, or a capital of its small letter, or blanks for which the line has a space
abbrev pub Shows : ℕ → ℕ → Type 0
Shows c b = (b ≡ c) ⊎ ((b ≡ folded c) ⊎ ((b ≡ 32) × (is_gap c ≡ true)))

abbrev pub StandsAt : List ℕ → ℕ → ℕ → Type 0
StandsAt text at b = IsSomeAnd (slice_get text at) (λ c. Shows c b)

-- each byte of the line has a place, and stands there
abbrev pub AreOrigins : List ℕ → List ℕ → List ℕ → Type 0
AreOrigins text [] [] = Unit {0}
AreOrigins text [] (o ∷ os) = ⊥
AreOrigins text (b ∷ bs) [] = ⊥
AreOrigins text (b ∷ bs) (o ∷ os) = StandsAt text o b × AreOrigins text bs os
