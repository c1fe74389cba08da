-- Promise: words that each stand for a thing.
use Rattle.std.specs.Prelude.{if◌then◌else◌, bytes_eq, List, [], ◌∷◌, Option, Some, None, map}
use Rattle.std.specs.Borrow.{Bor}
use Rattle.clap.specs.Words.{Text}

-- what the first entry of this word has
abbrev pub meaning_of : {A : Type 0} → Text → List (Text × A) → Option A
meaning_of word [] = None
meaning_of word (entry ∷ more) = if bytes_eq word entry.0 then Some entry.1 else meaning_of word more

-- a table in code
abbrev pub entries_of : {A : Type 0} → List (Bor Text × A) → List (Text × A)
entries_of table = map (λ entry. (entry.0.now, entry.1)) table
