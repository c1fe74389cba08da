-- Promise: names, types and columns.
use Rattle.std.specs.Prelude.{ℕ, ◌+◌, Bool, true, false, if◌then◌else◌, List, [], ◌∷◌, Option, Some, None, Result, Ok, Err}
use Rattle.sb_value.specs.Name.{same_name}
use Rattle.sb_value.specs.declared.value.ColumnType.{ColumnType}
use Rattle.sb_value.specs.declared.value.ColumnType.TheVariants.{Int, Text}
use Rattle.sb_value.specs.declared.value.ColumnDefinition.{ColumnDefinition}
use Rattle.sb_value.specs.declared.refusal.Refusal.{Refusal}
use Rattle.sb_value.specs.declared.refusal.Refusal.TheVariants as refusal
use Rattle.sb_check.specs.declared.tree.Column.{Column}
use Rattle.sb_syntax.specs.Tree.{Name}
use Rattle.sb_syntax.specs.declared.tree.TableReference.{TableReference}
use Rattle.sb_syntax.specs.declared.tree.TableReference.TheVariants.{Named, Inserted, Deleted, OldUpdated, NewUpdated}
use Rattle.sb_syntax.specs.declared.tree.ColumnReference.{ColumnReference}
use Rattle.sb_syntax.specs.declared.tree.ColumnReference.TheVariants.{Plain, Qualified}

-- the first refusal, or what follows
abbrev pub and_then : {A B : Type 0} → Result A Refusal → (A → Result B Refusal) → Result B Refusal
and_then (Err e) next = Err e
and_then (Ok a) next = next a

-- each in order, up to the first refusal
abbrev pub in_order : {A B : Type 0} → (A → Result B Refusal) → List A → Result (List B) Refusal
in_order walk [] = Ok []
in_order walk (x ∷ xs) = and_then (walk x) (λ y. and_then (in_order walk xs) (λ ys. Ok (y ∷ ys)))

-- refused unless the test holds
abbrev pub required : {A : Type 0} → Bool → Refusal → Result A Refusal → Result A Refusal
required true e next = next
required false e next = Err e

-- what is there, or the refusal
abbrev pub some_or : {A : Type 0} → Refusal → Option A → Result A Refusal
some_or e None = Err e
some_or e (Some a) = Ok a

-- two references to one table
abbrev pub same_table : TableReference → TableReference → Bool
same_table (Named a) (Named b) = same_name a b
same_table Inserted Inserted = true
same_table Deleted Deleted = true
same_table OldUpdated OldUpdated = true
same_table NewUpdated NewUpdated = true
same_table a b = false

-- two types that are the same
abbrev pub same_type : ColumnType → ColumnType → Bool
same_type Int Int = true
same_type Int Text = false
same_type Text Int = false
same_type Text Text = true

-- a source as a query sees it: its visible name and its columns
pub record Visible : Type 0 where
  pub name : TableReference
  pub columns : List ColumnDefinition

-- the sources of the queries around an expression, the innermost first
abbrev pub Scope : Type 0
Scope = List (List Visible)

-- the place and the type of a column, from place k on
abbrev pub column_from : ℕ → List ColumnDefinition → Name → Option (ℕ × ColumnType)
column_from k [] name = None
column_from k (c ∷ cs) name = if same_name c.name name then Some (k, c.of) else column_from (k + 1) cs name

-- the place and the type of a column
abbrev pub column_in : List ColumnDefinition → Name → Option (ℕ × ColumnType)
column_in columns name = column_from 0 columns name

-- the columns of that name in a query's sources, from source i on
abbrev pub holders : ℕ → ℕ → List Visible → Name → List (Column × ColumnType)
holders depth i [] name = []
holders depth i (v ∷ vs) name =
    elim (column_in v.columns name) [
      | None ↦ holders depth (i + 1) vs name
      | Some c ↦ (record { depth = depth; source = i; place = c.0 }, c.1) ∷ holders depth (i + 1) vs name
    ]

-- two sources that have a column make its name ambiguous
abbrev pub only_one : List (Column × ColumnType) → Result (Column × ColumnType) Refusal
only_one [] = Err refusal.NoColumn
only_one (c ∷ []) = Ok c
only_one (c ∷ d ∷ cs) = Err refusal.Ambiguous

-- a name without a qualifier: at the innermost place where some source has it, one source decides
abbrev pub plain_column : ℕ → Scope → Name → Result (Column × ColumnType) Refusal
plain_column depth [] name = Err refusal.NoColumn
plain_column depth (sources ∷ outer) name =
    elim (holders depth 0 sources name) [
      | [] ↦ plain_column (depth + 1) outer name
      | c ∷ cs ↦ only_one (c ∷ cs)
    ]

-- the source with that visible name, from source i on
abbrev pub source_named : ℕ → List Visible → TableReference → Option (ℕ × List ColumnDefinition)
source_named i [] table = None
source_named i (v ∷ vs) table = if same_table v.name table then Some (i, v.columns) else source_named (i + 1) vs table

-- the column of that name in one source
abbrev pub column_of_source : ℕ → ℕ × List ColumnDefinition → Name → Result (Column × ColumnType) Refusal
column_of_source depth s name =
    and_then (some_or refusal.NoColumn (column_in s.1 name)) (λ c.
    Ok (record { depth = depth; source = s.0; place = c.0 }, c.1))

-- a qualified name: of the innermost place with a source of that visible name
abbrev pub qualified_column : ℕ → Scope → TableReference → Name → Result (Column × ColumnType) Refusal
qualified_column depth [] table name = Err refusal.NoColumn
qualified_column depth (sources ∷ outer) table name =
    elim (source_named 0 sources table) [
      | None ↦ qualified_column (depth + 1) outer table name
      | Some s ↦ column_of_source depth s name
    ]

-- the column that a name with or without a qualifier means
abbrev pub column_named : Scope → ColumnReference → Result (Column × ColumnType) Refusal
column_named scope (Plain name) = plain_column 0 scope name
column_named scope (Qualified table name) = qualified_column 0 scope table name
