-- Machine: a walk through the rows of the table that a statement changes.
use Rattle.std.specs.Prelude.{◌≡◌, ℕ, Bool, List, [], ◌∷◌, Option, Some, option_and_then}
use Rattle.sb_value.specs.declared.value.Value.{Value}
use Rattle.sb_value.specs.declared.change.Change.{Change}
use Rattle.sb_plan.specs.Memo.{IsRight}
use Rattle.sb_check.specs.declared.tree.Source.TheVariants.{Table}
use Rattle.sb_plan.specs.Meaning.{holds}
use Rattle.sb_plan.specs.RowFlags.{Tell}
use Rattle.sb_plan.specs.Seen.{Seen, rows_in}
use Rattle.sb_plan.specs.declared.memo.Memo.{Memo}
use Rattle.sb_eval.specs.Changes.{changes_of}
use Rattle.sb_eval.specs.Effect.{EffectRight, change_of, with_change}
use Rattle.sb_eval.specs.Statement.{scope_of}
use Rattle.sb_eval.specs.declared.change.TableWalk.{TableWalk}

module _ {S : Type 0} (seen : S → Seen) (walk : TableWalk S) where
  -- what the walk knows of its condition is so
  abbrev pub IsTableWalkRight : Type 0
  IsTableWalkRight = IsRight (rows_in (seen walk.sources.now)) walk.filter.now walk.memo.now

  -- what is known of the operands is so
  abbrev pub AreOperandsRight : Memo → Type 0
  AreOperandsRight operands = EffectRight (rows_in (seen walk.sources.now)) walk.effect.now operands

  -- the change of a numbered row
  abbrev pub change_of_row : ℕ × List Value → Option Change
  change_of_row r = change_of (seen walk.sources.now) walk.table walk.effect.now r

  -- the changes with that of a row, where the condition is true of it
  abbrev pub changed : List Change → ℕ × List Value → Option (List Change)
  changed done r = option_and_then (with_change done (change_of_row r)) (holds (rows_in (seen walk.sources.now)) walk.filter.now (scope_of r))

  -- the flag is the truth of the condition with this row
  abbrev pub IsRowTold : List Value → Bool → Type 0
  IsRowTold row b = holds (rows_in (seen walk.sources.now)) walk.filter.now ((row ∷ []) ∷ []) ≡ Some b

  -- the flags are those of the rows
  abbrev pub AreRowsTold : List Bool → Type 0
  AreRowsTold flags = Tell IsRowTold flags (rows_in (seen walk.sources.now) (Table walk.table))

  -- the changes of all rows
  abbrev pub changes_of_rows : Option (List Change)
  changes_of_rows = changes_of (seen walk.sources.now) walk.table walk.effect.now walk.filter.now
