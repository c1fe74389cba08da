-- Promise: what a statement sees.
use Rattle.std.specs.Prelude.{ℕ, List, [], length}
use Rattle.sb_value.specs.declared.value.Value.{Value}
use Rattle.sb_value.specs.declared.net.Transition.{Transition}
use Rattle.sb_value.specs.declared.id.Who.{Who}
use Rattle.sb_value.specs.Table.{Entry, table_at, values}
use Rattle.sb_check.specs.declared.tree.Source.{Source}
use Rattle.sb_check.specs.declared.tree.Source.TheVariants.{Table, Inserted, Deleted, OldUpdated, NewUpdated}

-- the tables, a rule's transition tables, and the session that runs it
pub record Seen : Type 0 where
  pub tables : List Entry
  pub transition : Transition
  pub who : Who

-- outside of a rule there are no transition tables
abbrev pub no_transition : Transition
no_transition = record { inserted = []; deleted = []; old_updated = []; new_updated = [] }

-- the rows of a source
abbrev pub rows_in : Seen → Source → List (List Value)
rows_in seen (Table t) = values (table_at seen.tables t)
rows_in seen Inserted = seen.transition.inserted
rows_in seen Deleted = seen.transition.deleted
rows_in seen OldUpdated = seen.transition.old_updated
rows_in seen NewUpdated = seen.transition.new_updated

-- how many rows a source has
abbrev pub row_count : Seen → Source → ℕ
row_count seen s = length (rows_in seen s)
