-- Machine: a session's statement with all its locks asked for at once.
use Rattle.std.specs.Prelude.{◌≡◌, ◌⊎◌, ℕ, List, [], ◌∷◌, Some, None, Result, Err, IsTrue, option_map}
use Rattle.sb_value.specs.declared.value.Value.{Value}
use Rattle.sb_value.specs.declared.lock.LockMode.{LockMode}
use Rattle.sb_value.specs.declared.refusal.Refusal.{Refusal}
use Rattle.sb_value.specs.declared.refusal.Refusal.TheVariants.{Locked, TooBig, Overflow, TooManyRows, NoMemory}
use Rattle.sb_value.specs.Locks.{first_conflict, with_locks}
use Rattle.sb_check.specs.Condition.{Query}
use Rattle.sb_tables.specs.Held.{Held, has_number, numbered}
use Rattle.sb_eval.specs.Seen.{no_transition}
use Rattle.sb_eval.specs.Statement.{query_locks}
use Rattle.sb_eval.specs.declared.error.EvalError.{EvalError}
use Rattle.sb_eval.specs.declared.error.EvalError.TheVariants as error
use Rattle.sb_rawlog.specs.Records.{Record}
use Rattle.sb_process.specs.declared.database.Database.{Database}
use Rattle.sb_process.specs.Represents.{Represents}
use Rattle.sb_process.specs.Setting.{Setting, Progress, seen_with}
use Rattle.sb_process.specs.Consider.{select_within, with_request}

-- each table of the request is there
abbrev pub AreThere : List Held → List (ℕ × LockMode) → Type 0
AreThere tables [] = Unit {0}
AreThere tables (r ∷ request) = IsTrue (has_number tables r.0) × AreThere tables request

-- the progress once the locks were asked for: with all of them, or with none where a table conflicts
abbrev pub after_request : Setting → List (ℕ × LockMode) → Progress → Progress
after_request setting request progress =
    elim (first_conflict progress.locks setting.who.session request) [
      | Some table ↦ progress
      | None ↦ record progress { locks = with_locks progress.locks setting.who.session request }
    ]

-- the rows of a session's query, over the tables as they are seen
abbrev pub selected : Setting → Query → Progress → Result (List (List Value)) Refusal
selected setting q progress = with_request setting progress (query_locks q) (λ p. select_within (seen_with setting no_transition p) q p.left)

-- the refusal names the table
abbrev pub IsLocked : List Held → ℕ → Refusal → Type 0
IsLocked tables table refusal = (name : List ℕ) × (option_map (λ h. h.name) (numbered tables table) ≡ Some name) × (refusal ≡ Locked name)

-- the answer is the one that is meant, unless memory runs out
abbrev pub IsAnswer : {A : Type 0} → Result A Refusal → Result A Refusal → Type 0
IsAnswer meant result = (result ≡ meant) ⊎ (result ≡ Err NoMemory)

-- an evaluation's fault as a refusal
abbrev pub refusal_for : EvalError → Refusal
refusal_for error.TooBig = TooBig
refusal_for error.Overflow = Overflow
refusal_for error.TooManyRows = TooManyRows
refusal_for error.NoMemory = NoMemory

-- a select answers its rows or its refusal and keeps its locks; where memory runs out, it has them or not
pub record Selects (origin : List Held) (new : Database) (session : ℕ) (q : Query) (result : Result (List (List Value)) Refusal) (records : List Record) (clock : ℕ) (setting : Setting) (progress : Progress) : Type 0 where
  pub answer : IsAnswer (selected setting q progress) result
  pub stands : Represents origin new session records clock setting (after_request setting (query_locks q) progress) ⊎ ((result ≡ Err NoMemory) × Represents origin new session records clock setting progress)
