-- Machine: a line with values, put together piece by piece.
use Rattle.std.specs.Prelude.{◌≡◌, ℕ, List, ◌++◌, Result, Ok, Err}
use Rattle.sb_postgres.specs.declared.query.template.FillError.{FillError}
use Rattle.sb_postgres.specs.declared.query.template.FillError.TheVariants as error
use Rattle.sb_postgres.specs.Templates.{Cut, text_of}

-- the text of a part is behind the others, or it is told why there is none
abbrev pub Adds : Result Cut FillError → List ℕ → List ℕ → Result (Unit {0}) FillError → Type 0
Adds part old new (Ok _) = (cs : Cut) × (part ≡ Ok cs) × (new ≡ old ++ text_of cs)
Adds part old new (Err error.Memory) = Unit {0}
Adds part old new (Err error.TooLong) = ⊥
Adds part old new (Err (error.Refused r)) = ⊥
Adds part old new (Err (error.NoValue at)) = part ≡ Err (error.NoValue at)

-- a text with more behind it
abbrev pub with_text : List ℕ → Result Cut FillError → Result (List ℕ) FillError
with_text front (Ok cs) = Ok (front ++ text_of cs)
with_text front (Err e) = Err e
