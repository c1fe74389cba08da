-- Promise: one consideration of a rule.
use Rattle.std.specs.Prelude.{ℕ, Bool, true, false, List, [], ◌∷◌, ◌++◌, Option, Some, None, Result, Ok, Err}
use Rattle.sb_value.specs.declared.value.Value.{Value}
use Rattle.sb_value.specs.declared.change.Change.{Change}
use Rattle.sb_value.specs.declared.net.Transition.{Transition}
use Rattle.sb_value.specs.declared.lock.LockMode.{LockMode}
use Rattle.sb_value.specs.declared.refusal.Refusal.{Refusal}
use Rattle.sb_value.specs.declared.refusal.Refusal.TheVariants.{Locked}
use Rattle.sb_value.specs.Table.{name_at}
use Rattle.sb_value.specs.Locks.{first_conflict, with_locks}
use Rattle.sb_check.specs.Condition.{Query}
use Rattle.sb_check.specs.declared.tree.Statement.{Statement}
use Rattle.sb_check.specs.declared.tree.Action.{Action}
use Rattle.sb_check.specs.declared.tree.Action.TheVariants as action
use Rattle.sb_catalog.specs.declared.rule.Rule.{Rule}
use Rattle.sb_eval.specs.Meaning.{has_row}
use Rattle.sb_eval.specs.Seen.{Seen, row_count}
use Rattle.sb_eval.specs.Statement.{query_locks, statement_locks, condition_rows, select_rows, statement_changes}
use Rattle.sb_eval.specs.Target.{target}
use Rattle.sb_eval.specs.Work.{query_work, statement_work}
use Rattle.sb_process.specs.Budget.{with_work, change_work, within_budget}
use Rattle.sb_process.specs.Setting.{Setting, Progress, rule_tables, marked, seen_with}

-- the locks are asked for; what follows is done with them, and not at all where a table conflicts
abbrev pub with_request : {A : Type 0} → Setting → Progress → List (ℕ × LockMode) → (Progress → Result A Refusal) → Result A Refusal
with_request setting progress request next =
    elim (first_conflict progress.locks setting.who.session request) [
      | Some table ↦ Err (Locked (name_at setting.base table))
      | None ↦ next (record progress { locks = with_locks progress.locks setting.who.session request })
    ]

-- the rows of a query whose work is within the budget
abbrev pub select_within : Seen → Query → Option ℕ → Result (List (List Value)) Refusal
select_within seen q left = with_work (query_work (row_count seen) q) left (λ rest. select_rows seen q)

-- the changes of a statement over what it sees, and what its work and theirs leave of the budget
abbrev pub effect_seen : Seen → List Rule → Statement → Option ℕ → Result (List Change × Option ℕ) Refusal
effect_seen seen rules statement left =
    with_work (statement_work seen statement) left (λ rest. within_budget (change_work rules (target statement)) rest (statement_changes seen statement))

-- over the tables as they are seen now
abbrev pub statement_effect : Setting → Transition → Statement → Progress → Result (List Change × Option ℕ) Refusal
statement_effect setting tables statement progress = effect_seen (seen_with setting tables progress) setting.rules statement progress.left

-- the changes at the end of the list
abbrev pub with_effect : Progress → Result (List Change × Option ℕ) Refusal → Result Progress Refusal
with_effect progress (Err refusal) = Err refusal
with_effect progress (Ok effect) = Ok (record progress { changes = progress.changes ++ effect.0; left = effect.1 })

-- a statement is requested and evaluated, and its changes are appended
abbrev pub run_statement : Setting → Transition → Statement → Progress → Result Progress Refusal
run_statement setting tables statement progress =
    with_request setting progress (statement_locks statement) (λ p. with_effect p (statement_effect setting tables statement p))

-- how a rule's actions end
pub data Ending : Type 0 where
  ran : Progress → Ending
  rolled_back : Ending
  refused : Refusal → Ending

-- the actions in order, up to a `rollback` or a refusal
abbrev pub run_actions : Setting → Transition → List Action → Progress → Ending
run_actions setting tables [] progress = ran progress
run_actions setting tables (action.Rollback ∷ actions) progress = rolled_back
run_actions setting tables (action.Change statement ∷ actions) progress =
    elim (run_statement setting tables statement progress) [
      | Err refusal ↦ refused refusal
      | Ok p ↦ run_actions setting tables actions p
    ]

-- whether the condition is true, and the progress with its locks and with what is left of the budget
abbrev pub test_rows : Progress → Result (List (List Value)) Refusal → Result (Bool × Progress) Refusal
test_rows progress (Err refusal) = Err refusal
test_rows progress (Ok rows) = Ok (has_row rows, progress)

-- a query as a test
abbrev pub test_query : Seen → Query → Progress → Result (Bool × Progress) Refusal
test_query seen q progress =
    with_work (query_work (row_count seen) q) progress.left (λ left. test_rows (record progress { left = left }) (condition_rows seen q))

-- a rule without a condition goes on
abbrev pub test_condition : Setting → Transition → Option Query → Progress → Result (Bool × Progress) Refusal
test_condition setting tables None progress = Ok (true, progress)
test_condition setting tables (Some q) progress =
    with_request setting progress (query_locks q) (λ p. test_query (seen_with setting tables p) q p)

-- what a consideration came to
pub data Considered : Type 0 where
  was_false : Progress → Considered
  was_true : Ending → Considered
  was_refused : Refusal → Considered

-- the transition tables are taken and stay; the mark is set; then the condition and, where it is true, the actions
abbrev pub consider : Setting → Rule → Progress → Considered
consider setting rule progress =
    let tables = rule_tables progress rule in
    elim (test_condition setting tables rule.condition (marked rule progress)) [
      | Err refusal ↦ was_refused refusal
      | Ok tested ↦ elim tested.0 [
        | true ↦ was_true (run_actions setting tables rule.actions tested.1)
        | false ↦ was_false tested.1
      ]
    ]
