-- Promise: the walk of a rule's triggers.
use Rattle.std.specs.Prelude.{ℕ, Bool, true, false, List, [], ◌∷◌, ◌++◌, option_map, Result, Ok}
use Rattle.std.specs.List.{list_any}
use Rattle.sb_value.specs.declared.value.ColumnDefinition.{ColumnDefinition}
use Rattle.sb_value.specs.declared.refusal.Refusal.{Refusal}
use Rattle.sb_value.specs.declared.refusal.Refusal.TheVariants as refusal
use Rattle.sb_value.specs.declared.net.Triggers.{Triggers}
use Rattle.sb_value.specs.Columns.{set_of}
use Rattle.sb_syntax.specs.Tree.{Name, Trigger, on_insert, on_delete, on_update, on_update_of}
use Rattle.sb_check.specs.Names.{and_then, in_order, some_or, column_in}

-- the place of a column
abbrev pub place_named : List ColumnDefinition → Name → Result ℕ Refusal
place_named columns name = some_or refusal.NoColumn (option_map (λ c. c.0) (column_in columns name))

-- the places of the columns that a trigger lists, in order
abbrev pub trigger_places : List ColumnDefinition → Trigger → Result (List ℕ) Refusal
trigger_places columns on_insert = Ok []
trigger_places columns on_delete = Ok []
trigger_places columns on_update = Ok []
trigger_places columns (on_update_of names) = in_order (place_named columns) names

-- which operation a trigger names
abbrev pub is_insert : Trigger → Bool
is_insert on_insert = true
is_insert on_delete = false
is_insert on_update = false
is_insert (on_update_of names) = false

abbrev pub is_delete : Trigger → Bool
is_delete on_insert = false
is_delete on_delete = true
is_delete on_update = false
is_delete (on_update_of names) = false

abbrev pub is_update : Trigger → Bool
is_update on_insert = false
is_update on_delete = false
is_update on_update = true
is_update (on_update_of names) = false

-- the lists, one after another
abbrev pub joined : List (List ℕ) → List ℕ
joined [] = []
joined (p ∷ ps) = p ++ joined ps

-- the triggers as a set of operations and a set of columns
abbrev pub walk_triggers : List ColumnDefinition → List Trigger → Result Triggers Refusal
walk_triggers columns triggers =
    and_then (in_order (trigger_places columns) triggers) (λ places. Ok (record {
      inserted = list_any is_insert triggers;
      deleted = list_any is_delete triggers;
      updated = list_any is_update triggers;
      columns = set_of (joined places);
    }))
