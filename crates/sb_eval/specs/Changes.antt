-- Machine: the parts of a statement's cost and of its changes.
use Rattle.std.specs.Prelude.{ℕ, List, map, sum, Option, option_and_then, Result}
use Rattle.sb_value.specs.declared.value.Value.{Value}
use Rattle.sb_value.specs.declared.change.Change.{Change}
use Rattle.sb_value.specs.declared.refusal.Refusal.{Refusal}
use Rattle.sb_value.specs.Table.{table_at}
use Rattle.sb_check.specs.Condition.{Condition}
use Rattle.sb_check.specs.declared.tree.Assignment.{Assignment}
use Rattle.sb_check.specs.declared.tree.Statement.{Statement}
use Rattle.sb_plan.specs.Cost.{operand_cost}
use Rattle.sb_plan.specs.Meaning.{each}
use Rattle.sb_plan.specs.Seen.{Seen, row_count}
use Rattle.sb_eval.specs.Answer.{Gives}
use Rattle.sb_eval.specs.Effect.{change_of}
use Rattle.sb_eval.specs.Refused.{Answers}
use Rattle.sb_eval.specs.Statement.{changes_by, found, insert_changes, or_overflow, rows_after, within_rows}
use Rattle.sb_eval.specs.declared.change.RowEffect.{RowEffect}
use Rattle.sb_eval.specs.declared.stop.Stop.{Stop}
use Rattle.sb_eval.specs.declared.error.EvalError.{EvalError}

-- the costs of the operands of assignments, added up
abbrev pub operands_cost : Seen → List Assignment → ℕ
operands_cost seen assignments = sum (map (λ a. operand_cost (row_count seen) a.operand) assignments)

-- the inserts of rows under the next numbers of the table
abbrev pub next_inserts : Seen → ℕ → List (List Value) → List Change
next_inserts seen t rows = insert_changes seen t (table_at seen.tables t).next rows

-- the changes of the rows of a table for which the condition is true
abbrev pub changes_of : Seen → ℕ → RowEffect → Condition → Option (List Change)
changes_of seen t effect c = option_and_then (each (change_of seen t effect)) (found seen t c)

-- the changes of a statement, whatever it costs
abbrev pub changes_within : Seen → Statement → Result (List Change) Refusal
changes_within seen statement = within_rows (rows_after seen statement) (or_overflow (changes_by seen statement))

-- what was given is answered, or overflow
abbrev pub AnswersAs : {X A : Type 0} → (X → A) → Result X Stop → Result X EvalError → Type 0
AnswersAs {A = A} view given result = (meant : Option A) → Gives view meant given → Answers view (or_overflow meant) result
