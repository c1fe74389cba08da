-- Machine: the walk of a statement once its table is found, which asks of the table its id, its name and its columns.
use Rattle.std.specs.Prelude.{ℕ, Bool, true, Box, List, [], ◌∷◌, map, Option, option_map, Result, Ok}
use Rattle.std.specs.Global.{Global}
use Rattle.sb_value.specs.declared.refusal.Refusal.{Refusal}
use Rattle.sb_value.specs.declared.value.Value.{Value}
use Rattle.sb_value.specs.declared.value.ColumnDefinition.{ColumnDefinition}
use Rattle.sb_value.specs.Table.{Entry, empty_table}
use Rattle.sb_syntax.specs.Tree.{Name}
use Rattle.sb_syntax.specs.Tree as text
use Rattle.sb_syntax.specs.Views as view
use Rattle.sb_syntax.specs.declared.tree.Assignment as written
use Rattle.sb_syntax.specs.declared.tree.Condition.{Condition as Written}
use Rattle.sb_syntax.specs.declared.tree.TableReference.TheVariants.{Named}
use Rattle.sb_check.specs.declared.schema.TableEntry.{TableEntry}
use Rattle.sb_check.specs.declared.tree.Assignment.{Assignment}
use Rattle.sb_check.specs.declared.tree.Statement.{Statement}
use Rattle.sb_check.specs.declared.tree.Statement.TheVariants.{InsertRows, InsertQuery, Delete, Update}
use Rattle.sb_check.specs.Condition.{Condition}
use Rattle.sb_check.specs.Names.{and_then, in_order, Scope}
use Rattle.sb_check.specs.Parts.{filter_walk, query_walk}
use Rattle.sb_check.specs.Walk.{Schema, type_of, fitting, walk_assignments}

-- a table of these columns, with no row
abbrev pub entry_of : ℕ → Name → List ColumnDefinition → Entry
entry_of id name columns = record { id = id; name = name; table = empty_table columns }

-- a table of that name and these columns is the only source
abbrev pub table_scope : Name → List ColumnDefinition → Scope
table_scope name columns = (record { name = Named name; columns = columns } ∷ []) ∷ []

-- each row has as many values as the columns, of their types
unfoldable pub rows_fitting : List ColumnDefinition → List (List Value) → Result Bool Refusal
rows_fitting columns rows = and_then (in_order (λ row. fitting (map type_of row) columns) rows) (λ _. Ok true)

-- the assignments of an update
unfoldable pub assignments_walk :
    Schema → Name → List ColumnDefinition → List ℕ → List text.Assignment → Result (List Assignment) Refusal
assignments_walk schema name columns taken assignments =
    walk_assignments schema (entry_of 0 name columns) taken assignments

-- rows into a table
unfoldable pub rows_into : ℕ → List ColumnDefinition → List (List Value) → Result Statement Refusal
rows_into id columns rows = and_then (rows_fitting columns rows) (λ _. Ok (InsertRows id rows))

-- a query's rows into a table
unfoldable pub query_into : Schema → ℕ → List ColumnDefinition → text.Query → Result Statement Refusal
query_into schema id columns q =
    and_then (query_walk schema q []) (λ w.
    and_then (fitting w.1 columns) (λ _.
    Ok (InsertQuery id w.0)))

-- rows out of a table
unfoldable pub delete_of : Schema → ℕ → Name → List ColumnDefinition → text.Filter → Result Statement Refusal
delete_of schema id name columns filter =
    and_then (filter_walk schema filter (table_scope name columns)) (λ c. Ok (Delete id c))

-- rows of a table with other values
unfoldable pub update_of :
    Schema → ℕ → Name → List ColumnDefinition → List text.Assignment → text.Filter → Result Statement Refusal
update_of schema id name columns assignments filter =
    and_then (assignments_walk schema name columns [] assignments) (λ places.
    and_then (filter_walk schema filter (table_scope name columns)) (λ c. Ok (Update id places c)))

-- ---- the same of a table as it is lent, and of what is written

-- a filter
abbrev pub written_filter : Option (Box Written Global) → text.Filter
written_filter f = view.filter (option_map (λ a. a.value) f)

-- the condition of a filter, over the table alone
abbrev pub filter_over : Schema → TableEntry → text.Filter → Result Condition Refusal
filter_over schema table filter = filter_walk schema filter (table_scope table.name table.columns.now)

abbrev pub assignments_of : Schema → TableEntry → List written.Assignment → Result (List Assignment) Refusal
assignments_of schema table list = assignments_walk schema table.name table.columns.now [] (map view.assignment list)

abbrev pub insert_into : Schema → TableEntry → text.Query → Result Statement Refusal
insert_into schema table q = query_into schema table.id table.columns.now q

abbrev pub delete_from : Schema → TableEntry → text.Filter → Result Statement Refusal
delete_from schema table filter = delete_of schema table.id table.name table.columns.now filter

abbrev pub update_in : Schema → TableEntry → List written.Assignment → text.Filter → Result Statement Refusal
update_in schema table list filter =
    update_of schema table.id table.name table.columns.now (map view.assignment list) filter
