-- Promise: table locks of the sessions of a tenant.
use Rattle.std.specs.Prelude.{ℕ, Bool, true, false, not, ◌&&◌, ◌||◌, ◌==◌, List, [], ◌∷◌, Option, find, option_map}
use Rattle.std.specs.List.{list_any}
use Rattle.sb_value.specs.declared.lock.LockMode.{LockMode}
use Rattle.sb_value.specs.declared.lock.LockMode.TheVariants.{Read, Write}

-- which (session, table, mode) are held
abbrev pub Locks : Type 0
Locks = ℕ → ℕ → LockMode → Bool

abbrev pub no_locks : Locks
no_locks session table mode = false

abbrev pub same_mode : LockMode → LockMode → Bool
same_mode Read Read = true
same_mode Read Write = false
same_mode Write Read = false
same_mode Write Write = true

abbrev pub sessions : List ℕ
sessions = 0 ∷ 1 ∷ 2 ∷ 3 ∷ 4 ∷ 5 ∷ 6 ∷ 7 ∷ []

-- a read conflicts with another session's write, a write with its read or write
abbrev pub conflicts : Locks → ℕ → ℕ → LockMode → Bool
conflicts locks session table Read = list_any (λ other. not (other == session) && locks other table Write) sessions
conflicts locks session table Write = list_any (λ other. not (other == session) && (locks other table Write || locks other table Read)) sessions

-- the first table of the request that conflicts
abbrev pub first_conflict : Locks → ℕ → List (ℕ × LockMode) → Option ℕ
first_conflict locks session request = option_map (λ r. r.0) (find (λ r. conflicts locks session r.0 r.1) request)

abbrev pub with_locks : Locks → ℕ → List (ℕ × LockMode) → Locks
with_locks locks session request s t m = locks s t m || ((s == session) && list_any (λ r. (r.0 == t) && same_mode r.1 m) request)

abbrev pub released : Locks → ℕ → Locks
released locks session s t m = not (s == session) && locks s t m
