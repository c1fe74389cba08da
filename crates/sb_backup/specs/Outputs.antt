-- Promise: which text is written.
use Rattle.std.specs.Prelude.{ℕ, List, Option, IfSome}
use Rattle.std.specs.Io.KnownBytes.{Appends}

-- a text is written behind what stands there, and this is so of it
abbrev pub Writes : {W : Type 0} → (W → Option (List ℕ)) → W → W → (List ℕ → Type 0) → Type 0
Writes contents writer after says = (text : List ℕ) × Appends (contents writer) (contents after) text × says text

-- where all of the input is known, this is so of it and of the text that is written
abbrev pub WritesOf : {R W : Type 0} → (R → Option (List ℕ)) → (W → Option (List ℕ)) → R → W → W → (List ℕ → List ℕ → Type 0) → Type 0
WritesOf remaining contents reader writer after answers = IfSome (remaining reader) (λ input. Writes contents writer after (answers input))
