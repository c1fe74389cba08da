-- Machine: what is written behind a buffer's bytes.
use Rattle.std.specs.Prelude.{◌≡◌, ℕ, List, ◌++◌, Result, Ok, Err}
use Rattle.sb_postgres.specs.declared.error.WriteError.{WriteError}
use Rattle.sb_postgres.specs.declared.error.WriteError.TheVariants as errors

-- these bytes are behind the others, if something holds; if it doesn't, they can't be said
abbrev pub Pushes : Type 0 → List ℕ → List ℕ → List ℕ → Result (Unit {0}) WriteError → Type 0
Pushes Is bytes old new (Ok _) = Is × (new ≡ old ++ bytes)
Pushes Is bytes old new (Err errors.Memory) = Unit {0}
Pushes Is bytes old new (Err errors.Unsayable) = Is → ⊥

-- the whole message is behind the others, or nothing is; only memory keeps back what can be sent
abbrev pub Adds : Type 0 → List ℕ → List ℕ → List ℕ → Result (Unit {0}) WriteError → Type 0
Adds Is bytes old new (Ok _) = Is × (new ≡ old ++ bytes)
Adds Is bytes old new (Err errors.Memory) = new ≡ old
Adds Is bytes old new (Err errors.Unsayable) = (Is → ⊥) × (new ≡ old)
