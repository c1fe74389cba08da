-- Machine: a line that is put together, and what is returned on the way.
use Rattle.std.specs.Prelude.{◌≡◌, ℕ, List, ◌++◌, Result, Ok, Err}
use Rattle.sb_postgres.specs.declared.query.draft.Draft.{Draft}
use Rattle.sb_postgres.specs.declared.query.error.QueryError.{QueryError}
use Rattle.sb_postgres.specs.declared.query.error.QueryError.TheVariants as errors
use Rattle.sb_postgres.specs.declared.query.error.Refusal.{Refusal}
use Rattle.sb_postgres.specs.declared.query.piece.PieceKind.{PieceKind}
use Rattle.sb_postgres.specs.Drafts.{Drafted}
use Rattle.sb_postgres.specs.Scan.{Found}

-- a draft without where it lies in memory
abbrev pub drafted : Draft → Drafted
drafted d = record { bytes = d.bytes.items; origins = d.origins.items; gap = d.gap }

-- what was made of a draft is what is wanted, unless memory ran out
abbrev pub Makes : Result Drafted Refusal → Drafted → Result (Unit {0}) QueryError → Type 0
Makes wanted new (Ok _) = wanted ≡ Ok new
Makes wanted new (Err errors.Memory) = Unit {0}
Makes wanted new (Err (errors.Refused r)) = wanted ≡ Err r

-- only memory keeps it back
abbrev pub Gets : Drafted → Drafted → Result (Unit {0}) QueryError → Type 0
Gets wanted new (Ok _) = wanted ≡ new
Gets wanted new (Err errors.Memory) = Unit {0}
Gets wanted new (Err (errors.Refused r)) = ⊥

-- these are behind the others
abbrev pub Adds : {X : Type 0} → List X → List X → List X → Result (Unit {0}) QueryError → Type 0
Adds more old new (Ok _) = new ≡ old ++ more
Adds more old new (Err errors.Memory) = Unit {0}
Adds more old new (Err (errors.Refused r)) = ⊥

-- the piece that is found, or its fault at this place
abbrev pub IsFound : Found → ℕ → Result (PieceKind × ℕ) QueryError → Type 0
IsFound found at (Ok p) = found ≡ Ok p
IsFound found at (Err errors.Memory) = ⊥
IsFound found at (Err (errors.Refused r)) = (found ≡ Err r.fault) × (r.at ≡ at)
