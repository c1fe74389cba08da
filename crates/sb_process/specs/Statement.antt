-- Machine: a statement of a session, or of a rule with its transition tables: its changes, what stands after it, and its answer.
use Rattle.std.specs.Prelude.{◌≡◌, ◌⊎◌, ℕ, ◌≤◌, ◌+◌, List, ◌++◌, length, Option, Result, Ok, Err}
use Rattle.sb_value.specs.declared.change.Change.{Change}
use Rattle.sb_value.specs.declared.net.Transition.{Transition}
use Rattle.sb_value.specs.declared.refusal.Refusal.{Refusal}
use Rattle.sb_value.specs.declared.refusal.Refusal.TheVariants.{NoMemory}
use Rattle.sb_check.specs.declared.tree.Statement.{Statement}
use Rattle.sb_tables.specs.Held.{Held}
use Rattle.sb_eval.specs.Statement.{statement_locks}
use Rattle.sb_rawlog.specs.Records.{Record}
use Rattle.sb_process.specs.declared.database.Database.{Database}
use Rattle.sb_process.specs.Represents.{Represents}
use Rattle.sb_process.specs.Request.{after_request}
use Rattle.sb_process.specs.Setting.{Setting, Progress}
use Rattle.sb_process.specs.Consider.{with_request, statement_effect}

-- its changes and what is left of the budget, once all its locks are granted, or its refusal
abbrev pub effect_meant : Setting → Transition → Statement → Progress → Result (List Change × Option ℕ) Refusal
effect_meant setting tables statement progress =
    with_request setting progress (statement_locks statement) (λ p. statement_effect setting tables statement p)

-- the changes at the end of the list, with what is left; where it was refused, no changes and all that was left
abbrev pub with_effect_of : Result (List Change × Option ℕ) Refusal → Progress → Progress
with_effect_of (Err refusal) progress = progress
with_effect_of (Ok effect) progress = record progress { changes = progress.changes ++ effect.0; left = effect.1 }

-- what stands after it: its locks, unless a table conflicts, and its changes
abbrev pub after_statement : Setting → Transition → Statement → Progress → Progress
after_statement setting tables statement progress =
    with_effect_of (effect_meant setting tables statement progress) (after_request setting (statement_locks statement) progress)

-- how many changes were made
abbrev pub counted : Result (List Change × Option ℕ) Refusal → Result ℕ Refusal
counted (Err refusal) = Err refusal
counted (Ok effect) = Ok (length effect.0)

-- it answers as it is meant; or memory runs out, and it has its locks or not, but no changes
abbrev pub Runs : List Held → Database → ℕ → Transition → Statement → Result ℕ Refusal → List Record → ℕ → Setting → Progress → Type 0
Runs origin new session tables statement result records clock setting progress =
    ((result ≡ counted (effect_meant setting tables statement progress)) × Represents origin new session records clock setting (after_statement setting tables statement progress))
    ⊎ ((result ≡ Err NoMemory)
    × (Represents origin new session records clock setting (after_request setting (statement_locks statement) progress) ⊎ Represents origin new session records clock setting progress))

-- a clock has moved on, by n at most
abbrev pub RisesBy : ℕ → ℕ → ℕ → Type 0
RisesBy n old new = (old ≤ new) × (new ≤ old + n)
