-- Promise: settings by their names.
use Rattle.std.specs.Prelude.{ℕ, if◌then◌else◌, List, [], ◌∷◌, map, Option, Some, None}
use Rattle.std.specs.Str.{bytes_eq}
use Rattle.sb_postgres.specs.declared.told.settings.TheConstants.{SHOWN}

abbrev pub first_named : List (List ℕ × List ℕ) → List ℕ → Option (List ℕ)
first_named [] name = None
first_named (s ∷ ss) name = if bytes_eq s.0 name then Some s.1 else first_named ss name

-- by the table of settings
unfoldable pub setting_of : List ℕ → Option (List ℕ)
setting_of name = first_named (map (λ s. (s.0.now, s.1.now)) SHOWN) name
