-- Promise: net effects of a list of changes, and what follows from them: whether a rule is triggered, and its transition tables.
use Rattle.std.specs.Prelude.{ℕ, Bool, false, ◌&&◌, ◌||◌, ◌==◌, nat_lt, if◌then◌else◌, List, [], ◌∷◌, map, filter, filter_map, Option, Some, None}
use Rattle.std.specs.List.{list_any}
use Rattle.sb_value.specs.Flags.{share_place}
use Rattle.sb_value.specs.Columns.{differing}
use Rattle.sb_value.specs.Values.{same_row}
use Rattle.sb_value.specs.Table.{new_row, old_row}
use Rattle.sb_value.specs.declared.value.Value.{Value}
use Rattle.sb_value.specs.declared.change.Change.{Change}
use Rattle.sb_value.specs.declared.net.Net.{Net}
use Rattle.sb_value.specs.declared.net.Net.TheVariants as net
use Rattle.sb_value.specs.declared.change.ChangeKind.{ChangeKind}
use Rattle.sb_value.specs.declared.change.ChangeKind.TheVariants.{Inserted, Deleted, Updated}
use Rattle.sb_value.specs.declared.net.Transition.{Transition}
use Rattle.sb_value.specs.declared.net.Triggers.{Triggers}

-- the changes of one tuple
abbrev pub is_of : ℕ → ℕ → Change → Bool
is_of table tuple c = (c.table == table) && (c.tuple == tuple)

abbrev pub history : List Change → ℕ → ℕ → List Change
history changes table tuple = filter (is_of table tuple) changes

abbrev pub last_of : Change → List Change → Change
last_of c [] = c
last_of c (d ∷ ds) = last_of d ds

-- an update from one row to another, with the columns in which they differ; nothing where the rows are equal
abbrev pub update_between : List Value → List Value → Option Net
update_between old new = if same_row old new then None else Some (net.Updated old new (differing old new))

-- from the kinds of the first and the last change
abbrev pub net_between : ChangeKind → ChangeKind → Change → Change → Option Net
net_between Inserted Deleted first last = None
net_between Inserted Inserted first last = Some (net.Inserted (new_row last))
net_between Inserted Updated first last = Some (net.Inserted (new_row last))
net_between Deleted Deleted first last = Some (net.Deleted (old_row first))
net_between Updated Deleted first last = Some (net.Deleted (old_row first))
net_between Updated Updated first last = update_between (old_row first) (new_row last)
-- no such list of changes can be made
net_between Deleted Inserted first last = None
net_between Deleted Updated first last = None
net_between Updated Inserted first last = None

abbrev pub net_of : List Change → Option Net
net_of [] = None
net_of (c ∷ cs) = net_between c.kind (last_of c cs).kind c (last_of c cs)

-- the net effect of a list of changes on a tuple
abbrev pub net_effect : List Change → ℕ → ℕ → Option Net
net_effect changes table tuple = net_of (history changes table tuple)

-- one net effect and then another: several updates are one from the first old row to the last new one, or nothing where these
-- are equal; an insert and updates are an insert of the last row; updates and a delete are a delete of the first old row; an
-- insert and a delete are nothing
abbrev pub then_some : Net → Net → Option Net
then_some (net.Inserted a) (net.Inserted b) = Some (net.Inserted b)
then_some (net.Inserted a) (net.Updated old new columns) = Some (net.Inserted new)
then_some (net.Inserted a) (net.Deleted old) = None
then_some (net.Updated a b columns) (net.Updated old new more) = update_between a new
then_some (net.Updated a b columns) (net.Deleted old) = Some (net.Deleted a)
then_some (net.Updated a b columns) (net.Inserted new) = None
then_some (net.Deleted a) n = None

abbrev pub then_net : Option Net → Option Net → Option Net
then_net None n = n
then_net (Some m) None = Some m
then_net (Some m) (Some n) = then_some m n

-- the numbers of the tuples of a table that a list changes, rising
abbrev pub with_number : ℕ → List ℕ → List ℕ
with_number n [] = n ∷ []
with_number n (m ∷ ms) = if n == m then m ∷ ms else (if nat_lt n m then n ∷ m ∷ ms else m ∷ with_number n ms)

abbrev pub tuples_of : List Change → ℕ → List ℕ
tuples_of [] table = []
tuples_of (c ∷ cs) table = if c.table == table then with_number c.tuple (tuples_of cs table) else tuples_of cs table

-- true if a net update counts for the triggers
abbrev pub has_update : Triggers → List Bool → Bool
has_update triggers columns = triggers.updated || share_place triggers.columns columns

-- true if a net effect is one of the triggering operations
abbrev pub is_operation : Triggers → Option Net → Bool
is_operation triggers None = false
is_operation triggers (Some (net.Inserted new)) = triggers.inserted
is_operation triggers (Some (net.Deleted old)) = triggers.deleted
is_operation triggers (Some (net.Updated old new columns)) = has_update triggers columns

-- true if the changes trigger a rule on the table
abbrev pub is_triggered : Triggers → ℕ → List Change → Bool
is_triggered triggers table changes = list_any (λ tuple. is_operation triggers (net_effect changes table tuple)) (tuples_of changes table)

-- the rows that a net effect puts into each transition table
abbrev pub inserted_row : Option Net → Option (List Value)
inserted_row None = None
inserted_row (Some (net.Inserted new)) = Some new
inserted_row (Some (net.Deleted old)) = None
inserted_row (Some (net.Updated old new columns)) = None

abbrev pub deleted_row : Option Net → Option (List Value)
deleted_row None = None
deleted_row (Some (net.Inserted new)) = None
deleted_row (Some (net.Deleted old)) = Some old
deleted_row (Some (net.Updated old new columns)) = None

abbrev pub old_updated_row : Triggers → Option Net → Option (List Value)
old_updated_row triggers None = None
old_updated_row triggers (Some (net.Inserted new)) = None
old_updated_row triggers (Some (net.Deleted old)) = None
old_updated_row triggers (Some (net.Updated old new columns)) = if has_update triggers columns then Some old else None

abbrev pub new_updated_row : Triggers → Option Net → Option (List Value)
new_updated_row triggers None = None
new_updated_row triggers (Some (net.Inserted new)) = None
new_updated_row triggers (Some (net.Deleted old)) = None
new_updated_row triggers (Some (net.Updated old new columns)) = if has_update triggers columns then Some new else None

abbrev pub nets_of : List Change → ℕ → List (Option Net)
nets_of changes table = map (net_effect changes table) (tuples_of changes table)

abbrev pub transition_tables : Triggers → ℕ → List Change → Transition
transition_tables triggers table changes =
    let nets = nets_of changes table in
    record {
      inserted = filter_map inserted_row nets;
      deleted = filter_map deleted_row nets;
      old_updated = filter_map (old_updated_row triggers) nets;
      new_updated = filter_map (new_updated_row triggers) nets;
    }
