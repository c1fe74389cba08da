-- Promise: the meaning of a statement: its locks, then TooBig, Overflow or TooManyRows, in this order, or its rows or its changes.
use Rattle.std.specs.Prelude.{ℕ, ◌+◌, ◌*◌, ◌^◌, Bool, ◌==◌, nat_lt, if◌then◌else◌, List, [], ◌∷◌, ◌++◌, map, filter_map, length, sum, slice_set, Option, Some, None, option_map, option_and_then, Result, Ok, Err}
use Rattle.sb_value.specs.declared.value.Value.{Value}
use Rattle.sb_value.specs.declared.change.Change.{Change}
use Rattle.sb_value.specs.declared.change.ChangeKind.TheVariants as kind
use Rattle.sb_value.specs.declared.lock.LockMode.{LockMode}
use Rattle.sb_value.specs.declared.lock.LockMode.TheVariants.{Read, Write}
use Rattle.sb_value.specs.declared.refusal.Refusal.{Refusal}
use Rattle.sb_value.specs.declared.refusal.Refusal.TheVariants.{TooBig, Overflow, TooManyRows}
use Rattle.sb_value.specs.Columns.{set_of}
use Rattle.sb_value.specs.Table.{table_at}
use Rattle.sb_check.specs.Condition.{Condition, Query}
use Rattle.sb_check.specs.Mentions.{sources_of, query_sources, assignment_sources}
use Rattle.sb_check.specs.declared.tree.Source.{Source}
use Rattle.sb_check.specs.declared.tree.Source.TheVariants as source
use Rattle.sb_check.specs.declared.tree.Assignment.{Assignment}
use Rattle.sb_check.specs.declared.tree.Statement.{Statement}
use Rattle.sb_check.specs.declared.tree.Statement.TheVariants.{InsertRows, InsertQuery, Delete, Update}
use Rattle.sb_plan.specs.Seen.{Seen, row_count, rows_in}
use Rattle.sb_plan.specs.Meaning.{Scope, both, each, passing, holds, operand_value, rows_of}
use Rattle.sb_plan.specs.Cost.{subquery_cost, operand_cost, query_cost}

-- ---- the lock list: the tables in the order of their places in the text

-- a read of each table among the sources; nothing for transition tables
abbrev pub read_of : Source → Option (ℕ × LockMode)
read_of (source.Table t) = Some (t, Read)
read_of source.Inserted = None
read_of source.Deleted = None
read_of source.OldUpdated = None
read_of source.NewUpdated = None

-- the lock list of a query
abbrev pub query_locks : Query → List (ℕ × LockMode)
query_locks q = filter_map read_of (query_sources q)

-- a write of the table that is changed, and reads of the others
abbrev pub write_of : ℕ → ℕ × LockMode → ℕ × LockMode
write_of target r = if r.0 == target then (target, Write) else r

-- the lock list of a statement with this target and these sources
abbrev pub target_locks : ℕ → List Source → List (ℕ × LockMode)
target_locks target sources = (target, Write) ∷ map (write_of target) (filter_map read_of sources)

-- the lock list of a statement
abbrev pub statement_locks : Statement → List (ℕ × LockMode)
statement_locks (InsertRows t rows) = target_locks t []
statement_locks (InsertQuery t q) = target_locks t (query_sources q)
statement_locks (Delete t c) = target_locks t (sources_of c)
statement_locks (Update t assignments c) = target_locks t (assignment_sources assignments ++ sources_of c)

-- ---- cost

-- the most that a statement may cost
abbrev pub cost_limit : ℕ
cost_limit = 2 ^ 20

-- the most rows of a table, and of a select command
abbrev pub row_limit : ℕ
row_limit = 4096

-- so many for each row of the target
abbrev pub target_cost : Seen → ℕ → ℕ → ℕ
target_cost seen t subqueries = length (table_at seen.tables t).rows * (1 + subqueries)

-- the cost of a statement
abbrev pub statement_cost : Seen → Statement → ℕ
statement_cost seen (InsertRows t rows) = 0
statement_cost seen (InsertQuery t q) = query_cost (row_count seen) q
statement_cost seen (Delete t c) = target_cost seen t (subquery_cost (row_count seen) c)
statement_cost seen (Update t assignments c) = target_cost seen t (sum (map (λ a. operand_cost (row_count seen) a.operand) assignments) + subquery_cost (row_count seen) c)

-- ---- rows and changes

-- what has no value overflows
abbrev pub or_overflow : {A : Type 0} → Option A → Result A Refusal
or_overflow None = Err Overflow
or_overflow (Some a) = Ok a

-- what is given within the cost, or the refusal
abbrev pub within_cost : {A : Type 0} → ℕ → Option A → Result A Refusal
within_cost cost given = if nat_lt cost_limit cost then Err TooBig else or_overflow given

-- what is given within the limit of rows, or the refusal
abbrev pub within_rows : {A : Type 0} → (A → ℕ) → Result A Refusal → Result A Refusal
within_rows count (Err e) = Err e
within_rows count (Ok a) = if nat_lt row_limit (count a) then Err TooManyRows else Ok a

-- the rows of a rule's condition
abbrev pub condition_rows : Seen → Query → Result (List (List Value)) Refusal
condition_rows seen q = within_cost (query_cost (row_count seen) q) (rows_of (rows_in seen) q [])

-- the rows of a select command
abbrev pub select_rows : Seen → Query → Result (List (List Value)) Refusal
select_rows seen q = within_rows length (condition_rows seen q)

-- the insert of a row under a number
abbrev pub insert_change : Seen → ℕ → ℕ → List Value → Change
insert_change seen t number row = record {
  tenant = seen.who.tenant;
  session = seen.who.session;
  table = t;
  tuple = number;
  kind = kind.Inserted;
  old = None;
  new = Some row;
  columns = set_of [];
}

-- the delete of a numbered row
abbrev pub delete_change : Seen → ℕ → ℕ × List Value → Change
delete_change seen t r = record {
  tenant = seen.who.tenant;
  session = seen.who.session;
  table = t;
  tuple = r.0;
  kind = kind.Deleted;
  old = Some r.1;
  new = None;
  columns = set_of [];
}

-- the update of a numbered row to another row
abbrev pub update_change : Seen → ℕ → List Bool → ℕ × List Value → List Value → Change
update_change seen t columns r row = record {
  tenant = seen.who.tenant;
  session = seen.who.session;
  table = t;
  tuple = r.0;
  kind = kind.Updated;
  old = Some r.1;
  new = Some row;
  columns = columns;
}

-- rows under the numbers from n on
abbrev pub insert_changes : Seen → ℕ → ℕ → List (List Value) → List Change
insert_changes seen t n [] = []
insert_changes seen t n (row ∷ rows) = insert_change seen t n row ∷ insert_changes seen t (n + 1) rows

-- what the condition and the operands see of a numbered row
abbrev pub scope_of : ℕ × List Value → Scope
scope_of r = (r.1 ∷ []) ∷ []

-- the numbered rows of the table for which the condition is true
abbrev pub found : Seen → ℕ → Condition → Option (List (ℕ × List Value))
found seen t c = passing (λ r. holds (rows_in seen) c (scope_of r)) (table_at seen.tables t).rows

-- the row with each assignment's value, all of them evaluated on the row as it was
abbrev pub assigned : Seen → Scope → List Assignment → List Value → Option (List Value)
assigned seen scope [] row = Some row
assigned seen scope (a ∷ rest) row = both (λ v new. Some (slice_set new a.place v)) (operand_value (rows_in seen) a.operand scope) (assigned seen scope rest row)

-- the columns that an update names
abbrev pub places_of : List Assignment → List Bool
places_of assignments = set_of (map (λ a. a.place) assignments)

-- the update of a numbered row
abbrev pub update_of : Seen → ℕ → List Assignment → ℕ × List Value → Option Change
update_of seen t assignments r = option_map (update_change seen t (places_of assignments) r) (assigned seen (scope_of r) assignments r.1)

-- the changes of a statement, or none where it overflows
abbrev pub changes_by : Seen → Statement → Option (List Change)
changes_by seen (InsertRows t rows) = Some (insert_changes seen t (table_at seen.tables t).next rows)
changes_by seen (InsertQuery t q) = option_map (insert_changes seen t (table_at seen.tables t).next) (rows_of (rows_in seen) q [])
changes_by seen (Delete t c) = option_map (map (delete_change seen t)) (found seen t c)
changes_by seen (Update t assignments c) = option_and_then (each (update_of seen t assignments)) (found seen t c)

-- how many rows a table would have with these inserts
abbrev pub rows_with : Seen → ℕ → List Change → ℕ
rows_with seen t changes = length (table_at seen.tables t).rows + length changes

-- how many rows the table of the statement would have
abbrev pub rows_after : Seen → Statement → List Change → ℕ
rows_after seen (InsertRows t rows) changes = rows_with seen t changes
rows_after seen (InsertQuery t q) changes = rows_with seen t changes
rows_after seen (Delete t c) changes = 0
rows_after seen (Update t assignments c) changes = 0

-- the changes of a statement
abbrev pub statement_changes : Seen → Statement → Result (List Change) Refusal
statement_changes seen statement =
    within_rows (rows_after seen statement) (within_cost (statement_cost seen statement) (changes_by seen statement))
