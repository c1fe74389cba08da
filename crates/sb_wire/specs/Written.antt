-- Machine: text that is added behind what stands there.
use Rattle.std.specs.Prelude.{◌≡◌, ℕ, ◌-◌, List, [], ◌∷◌, ◌++◌, length, take, flat_map}
use Rattle.sb_wire.specs.Lines.{newline}

-- the bytes of old still stand in front
abbrev pub IsInFront : List ℕ → List ℕ → Type 0
IsInFront old new = take (length old) new ≡ old

-- all bytes but the last
abbrev pub without_last : List ℕ → List ℕ
without_last bytes = take (length bytes - 1) bytes

-- each line with the same bytes in front and an own newline
abbrev pub started_lines : List ℕ → List (List ℕ) → List ℕ
started_lines start lines = flat_map (λ l. start ++ l ++ newline ∷ []) lines
