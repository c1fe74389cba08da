-- Machine: lines that end a session.
use Rattle.std.specs.Prelude.{◌≡◌, ℕ, List, [], ◌∷◌, codes}

-- each is the line `end`
abbrev pub AreEnds : List (List ℕ) → Type 0
AreEnds [] = Unit {0}
AreEnds (line ∷ lines) = (line ≡ codes "end") × AreEnds lines
