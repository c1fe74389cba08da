-- Machine: what the consideration of a rule comes to in memory.
use Rattle.std.specs.Prelude.{◌≡◌, ℕ, Bool, true, false, List, [], ◌∷◌, ◌++◌, Option, Some, None, Result, Ok, Err}
use Rattle.sb_value.specs.declared.value.Value.{Value}
use Rattle.sb_value.specs.declared.lock.LockMode.{LockMode}
use Rattle.sb_value.specs.declared.refusal.Refusal.{Refusal}
use Rattle.sb_value.specs.declared.refusal.Verdict.{Verdict}
use Rattle.sb_value.specs.declared.refusal.Verdict.TheVariants as verdict
use Rattle.sb_value.specs.Locks.{released}
use Rattle.sb_tables.specs.Held.{Held}
use Rattle.sb_eval.specs.Meaning.{has_row}
use Rattle.sb_eval.specs.Refused.{with_given}
use Rattle.sb_rawlog.specs.Records.{Record}
use Rattle.sb_process.specs.declared.database.Database.{Database}
use Rattle.sb_process.specs.declared.Outcome.{Outcome}
use Rattle.sb_process.specs.declared.Outcome.TheVariants.{Done, ByRule, ByError, ByLimit}
use Rattle.sb_process.specs.declared.consider.Consideration.{Consideration}
use Rattle.sb_process.specs.declared.consider.Consideration.TheVariants as consideration
use Rattle.sb_process.specs.Represents.{EachTransaction, Represents}
use Rattle.sb_process.specs.Setting.{Setting, Progress}
use Rattle.sb_process.specs.Process.{Processing}
use Rattle.sb_process.specs.Consider.{Ending, ran, rolled_back, refused, Considered, was_false, was_true, was_refused}

-- the transaction has come to this; a release leaves the same locks as before
pub record ComesTo (origin : List Held) (new : Database) (session : ℕ) (records : List Record) (clock : ℕ) (setting : Setting) (progress after : Progress) : Type 0 where
  pub stands : Represents origin new session records clock setting after
  pub locks : (s t : ℕ) (m : LockMode) → released after.locks session s t m ≡ released progress.locks session s t m

-- each transaction goes on, with the log as it is
abbrev pub GoesOnHere : Database → Database → ℕ → Type 0
GoesOnHere old new session =
    (records : List Record) (clock : ℕ) → EachTransaction old session records clock (λ origin setting progress. (after : Progress) × ComesTo origin new session records clock setting progress after)

-- ---- answers, where `stands` says what the transaction has come to

-- a query as a test
abbrev pub truth : Result (List (List Value)) Refusal → Result Bool Refusal
truth found = with_given has_row found

-- the condition's truth, or its refusal
abbrev pub Tests : (Progress → Type 0) → Result (Bool × Progress) Refusal → Result Bool Refusal → Type 0
Tests stands (Ok tested) result = (result ≡ Ok tested.0) × stands tested.1
Tests stands (Err refusal) result = result ≡ Err refusal

-- whether an action ran, or rolled back
abbrev pub Acts : (Progress → Type 0) → Ending → Result Bool Refusal → Type 0
Acts stands (ran p) result = (result ≡ Ok true) × stands p
Acts stands rolled_back result = result ≡ Ok false
Acts stands (refused refusal) result = result ≡ Err refusal

-- how the actions end
abbrev pub Ends : (Progress → Type 0) → Ending → Result Consideration Refusal → Type 0
Ends stands (ran p) result = (result ≡ Ok consideration.True) × stands p
Ends stands rolled_back result = result ≡ Ok consideration.RolledBack
Ends stands (refused refusal) result = result ≡ Err refusal

-- what the consideration came to
abbrev pub Goes : (Progress → Type 0) → Considered → Result Consideration Refusal → Type 0
Goes stands (was_false p) result = (result ≡ Ok consideration.False) × stands p
Goes stands (was_true ending) result = Ends stands ending result
Goes stands (was_refused refusal) result = result ≡ Err refusal

-- ---- notes of an answer

abbrev pub verdict_noted : Result Consideration Refusal → Verdict
verdict_noted (Ok consideration.False) = verdict.False
verdict_noted (Ok consideration.True) = verdict.True
verdict_noted (Ok consideration.RolledBack) = verdict.True
verdict_noted (Err refusal) = verdict.Error

abbrev pub outcome_noted : ℕ → Result Consideration Refusal → Option Outcome
outcome_noted rule (Ok consideration.False) = None
outcome_noted rule (Ok consideration.True) = None
outcome_noted rule (Ok consideration.RolledBack) = Some (ByRule rule)
outcome_noted rule (Err refusal) = Some (ByError rule refusal)

-- ---- what a consideration means for processing

-- the verdict on a rule
abbrev pub verdict_of : Considered → Verdict
verdict_of (was_false p) = verdict.False
verdict_of (was_true (ran p)) = verdict.True
verdict_of (was_true rolled_back) = verdict.True
verdict_of (was_true (refused refusal)) = verdict.Error
verdict_of (was_refused refusal) = verdict.Error

-- how processing ends with the rule, if it does
abbrev pub outcome_of : ℕ → Considered → Option Outcome
outcome_of rule (was_false p) = None
outcome_of rule (was_true (ran p)) = None
outcome_of rule (was_true rolled_back) = Some (ByRule rule)
outcome_of rule (was_true (refused refusal)) = Some (ByError rule refusal)
outcome_of rule (was_refused refusal) = Some (ByError rule refusal)

-- what processing goes on with; what it began with, where it ends
abbrev pub left_by : Progress → Considered → Progress
left_by progress (was_false p) = p
left_by progress (was_true (ran p)) = p
left_by progress (was_true rolled_back) = progress
left_by progress (was_true (refused refusal)) = progress
left_by progress (was_refused refusal) = progress

-- the outcome and the verdict of a consideration, and where processing goes on, what the transaction has come to
pub record Notes (stands : Progress → Type 0) (rule : ℕ) (progress : Progress) (meant : Considered) (old new : List (ℕ × Verdict)) (ending : Option Outcome) : Type 0 where
  pub outcome : ending ≡ outcome_of rule meant
  pub verdict : new ≡ old ++ (rule, verdict_of meant) ∷ []
  pub comes_to : ending ≡ None → stands (left_by progress meant)

-- whether the transaction goes on
abbrev pub is_done : Outcome → Bool
is_done Done = true
is_done (ByRule rule) = false
is_done (ByError rule refusal) = false
is_done ByLimit = false

-- the outcome and the verdicts of processing, and where it is done, what the transaction has come to
pub record Finds (stands : Progress → Type 0) (meant : Processing) (old new : List (ℕ × Verdict)) (how : Outcome) : Type 0 where
  pub outcome : how ≡ meant.outcome
  pub trace : new ≡ old ++ meant.trace
  pub comes_to : how ≡ Done → stands meant.progress
