-- Machine: what a statement does to each row for which its condition is true.
use Rattle.std.specs.Prelude.{ℕ, Bool, if◌then◌else◌, List, [], ◌∷◌, ◌++◌, Option, Some, option_map}
use Rattle.sb_value.specs.declared.value.Value.{Value}
use Rattle.sb_value.specs.declared.change.Change.{Change}
use Rattle.sb_plan.specs.Seen.{Seen}
use Rattle.sb_eval.specs.Statement.{delete_change, update_change, assigned, scope_of}
use Rattle.sb_check.specs.declared.tree.Assignment.{Assignment}
use Rattle.sb_check.specs.declared.tree.Source.{Source}
use Rattle.sb_plan.specs.Memo.{OperandRight, left, right}
use Rattle.sb_plan.specs.declared.memo.Memo.{Memo}
use Rattle.sb_eval.specs.declared.change.RowEffect.{RowEffect}
use Rattle.sb_eval.specs.declared.change.RowEffect.TheVariants.{Delete, Update}

-- the change of one row, with the columns that an update names
abbrev pub change_of : Seen → ℕ → RowEffect → ℕ × List Value → Option Change
change_of seen t Delete r = Some (delete_change seen t r)
change_of seen t (Update assignments columns) r = option_map (update_change seen t columns r) (assigned seen (scope_of r) assignments.now r.1)

-- the changes with that of one row, where there is one
abbrev pub with_change : List Change → Option Change → Bool → Option (List Change)
with_change done change passes = if passes then option_map (λ c. done ++ c ∷ []) change else Some done

-- what is known of it is so in every scope
module _ (rows_in : Source → List (List Value)) where
  -- of the operands of assignments: each lies to the left of those after it
  abbrev pub AssignmentsRight : List Assignment → Memo → Type 0
  AssignmentsRight [] memo = Unit {0}
  AssignmentsRight (a ∷ rest) memo = OperandRight rows_in a.operand (left memo) × AssignmentsRight rest (right memo)

  abbrev pub EffectRight : RowEffect → Memo → Type 0
  EffectRight Delete memo = Unit {0}
  EffectRight (Update assignments columns) memo = AssignmentsRight assignments.now memo
