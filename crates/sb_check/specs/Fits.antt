-- Promise: what a resolved tree promises to what evaluates it: each column is one of its sources', arithmetic and `sum` take integers, and both sides of a comparison, of `in`, of an assignment and of an insert have one type.
use Rattle.std.specs.Prelude.{◌≡◌, ℕ, List, [], ◌∷◌, map, flat_map, slice_get, unwrap_or, Option, None, Some, Ok}
use Rattle.sb_value.specs.declared.value.Value.{Value}
use Rattle.sb_value.specs.declared.value.ColumnType.{ColumnType}
use Rattle.sb_value.specs.declared.value.ColumnType.TheVariants.{Int}
use Rattle.sb_value.specs.declared.value.ColumnDefinition.{ColumnDefinition}
use Rattle.sb_value.specs.declared.net.Triggers.{Triggers}
use Rattle.sb_syntax.specs.declared.tree.TableReference.{TableReference}
use Rattle.sb_syntax.specs.Tree as text
use Rattle.sb_check.specs.Expression.{Expression, literal, column, binary}
use Rattle.sb_check.specs.Condition.{Condition, always, disjunction, conjunction, negation, compare, is_in, exists, Operand, expression, scalar_subquery, Query, select}
use Rattle.sb_check.specs.declared.tree.Column.{Column}
use Rattle.sb_check.specs.declared.tree.Items.{Items}
use Rattle.sb_check.specs.declared.tree.Items.TheVariants.{All, Count, Sum, Each}
use Rattle.sb_check.specs.declared.tree.Source.{Source}
use Rattle.sb_check.specs.declared.tree.Source.TheVariants.{Table}
use Rattle.sb_check.specs.declared.tree.Assignment.{Assignment}
use Rattle.sb_check.specs.declared.tree.Statement.{Statement}
use Rattle.sb_check.specs.declared.tree.Statement.TheVariants.{InsertRows, InsertQuery, Delete, Update}
use Rattle.sb_check.specs.declared.tree.Action.{Action}
use Rattle.sb_check.specs.declared.tree.Action.TheVariants as action
use Rattle.sb_check.specs.Resolved.{Resolved, plain, new_table, table, rule, query, change, walk_names}
use Rattle.sb_check.specs.RuleParts.{Parts, in_rule}
use Rattle.sb_check.specs.Walk.{Schema, type_of, walk_table}

-- the types of the columns of each source of the queries around an expression, the innermost first
abbrev pub Types : Type 0
Types = List (List (List ColumnType))

-- the type of a column, if there is one at its place
abbrev pub column_type : Types → Column → Option ColumnType
column_type types c = slice_get (unwrap_or (slice_get (unwrap_or (slice_get types c.depth) []) c.source) []) c.place

-- an expression has values of this type
abbrev pub IsOf : Types → Expression → ColumnType → Type 0
IsOf types (literal v) t = type_of v ≡ t
IsOf types (column c) t = column_type types c ≡ Some t
IsOf types (binary a op b) t = IsOf types a Int × IsOf types b Int × (t ≡ Int)

-- expressions have values of these types, in order
abbrev pub AreOf : Types → List Expression → List ColumnType → Type 0
AreOf types [] [] = Unit {0}
AreOf types [] (t ∷ ts) = ⊥
AreOf types (e ∷ es) [] = ⊥
AreOf types (e ∷ es) (t ∷ ts) = IsOf types e t × AreOf types es ts

-- what a query lists of its sources has columns of these types
abbrev pub Lists : Types → List (List ColumnType) → Items → List ColumnType → Type 0
Lists types sources All ts = ts ≡ flat_map (λ s. s) sources
Lists types sources Count ts = ts ≡ Int ∷ []
Lists types sources (Sum e) ts = IsOf types e Int × (ts ≡ Int ∷ [])
Lists types sources (Each es) ts = AreOf types es ts

-- a query gives one value
abbrev pub IsOneValue : Query → Type 0
IsOneValue (select All sources c) = ⊥
IsOneValue (select Count sources c) = Unit {0}
IsOneValue (select (Sum e) sources c) = Unit {0}
IsOneValue (select (Each es) sources c) = ⊥

-- where the columns of each source have these types
module _ (types_of : Source → List ColumnType) where
  abbrev mutual
    -- a condition compares values of one type
    pub ConditionFits : Types → Condition → Type 0
    ConditionFits types always = Unit {0}
    ConditionFits types (disjunction a b) = ConditionFits types a × ConditionFits types b
    ConditionFits types (conjunction a b) = ConditionFits types a × ConditionFits types b
    ConditionFits types (negation a) = ConditionFits types a
    ConditionFits types (compare a op b) = (t : ColumnType) × IsOf types a t × OperandFits types b t
    ConditionFits types (is_in a q) = (t : ColumnType) × IsOf types a t × QueryFits types q (t ∷ [])
    ConditionFits types (exists q) = (ts : List ColumnType) × QueryFits types q ts

    -- an operand has values of this type
    pub OperandFits : Types → Operand → ColumnType → Type 0
    OperandFits types (expression e) t = IsOf types e t
    OperandFits types (scalar_subquery q) t = IsOneValue q × QueryFits types q (t ∷ [])

    -- a query gives columns of these types
    pub QueryFits : Types → Query → List ColumnType → Type 0
    QueryFits types (select items sources c) ts =
        Lists (map types_of sources ∷ types) (map types_of sources) items ts
        × ConditionFits (map types_of sources ∷ types) c

  -- what the condition and the operands of a delete or an update see: one row of the table
  abbrev pub row_types : ℕ → Types
  row_types id = (types_of (Table id) ∷ []) ∷ []

  -- each row has a value of each column's type
  abbrev pub RowsFit : ℕ → List (List Value) → Type 0
  RowsFit id [] = Unit {0}
  RowsFit id (row ∷ rows) = (map type_of row ≡ types_of (Table id)) × RowsFit id rows

  -- each assignment gives a column of the table a value of its type
  abbrev pub AssignmentsFit : ℕ → List Assignment → Type 0
  AssignmentsFit id [] = Unit {0}
  AssignmentsFit id (a ∷ rest) =
      ((t : ColumnType) × (slice_get (types_of (Table id)) a.place ≡ Some t) × OperandFits (row_types id) a.operand t)
      × AssignmentsFit id rest

  abbrev pub StatementFits : Statement → Type 0
  StatementFits (InsertRows id rows) = RowsFit id rows
  StatementFits (InsertQuery id q) = QueryFits [] q (types_of (Table id))
  StatementFits (Delete id c) = ConditionFits (row_types id) c
  StatementFits (Update id assignments c) = AssignmentsFit id assignments × ConditionFits (row_types id) c

  -- the condition of a rule, if it has one
  abbrev pub RuleConditionFits : Option Query → Type 0
  RuleConditionFits None = Unit {0}
  RuleConditionFits (Some q) = (ts : List ColumnType) × QueryFits [] q ts

  abbrev pub ActionsFit : List Action → Type 0
  ActionsFit [] = Unit {0}
  ActionsFit (action.Rollback ∷ rest) = ActionsFit rest
  ActionsFit (action.Change s ∷ rest) = StatementFits s × ActionsFit rest

-- the columns of each source that may be named have these types; there are such types where numbers tell columns
abbrev pub AreTypesOf : Schema → (Source → List ColumnType) → Type 0
AreTypesOf schema types_of =
    (table : TableReference) (s : Source × List ColumnDefinition) → walk_table schema table ≡ Ok s →
    types_of s.0 ≡ map (λ c. c.of) s.1

-- there are such types
abbrev pub HasTypes : Schema → Type 0
HasTypes schema = (types_of : Source → List ColumnType) × AreTypesOf schema types_of

-- there are, whatever rule the command is part of
abbrev pub HasTypesInRules : Schema → Type 0
HasTypesInRules schema = (rule : Option (List ColumnDefinition × Triggers)) → HasTypes (record schema { rule = rule })

-- a rule's condition and actions fit the tables and the transition tables that the rule may name, whose columns are its table's
abbrev pub PartsFit : Schema → Parts → Type 0
PartsFit schema parts =
    (columns : List ColumnDefinition)
    × ((types_of : Source → List ColumnType) → AreTypesOf (in_rule schema columns parts.1) types_of
    → (types_of (Table parts.0) ≡ map (λ c. c.of) columns)
    × RuleConditionFits types_of parts.2 × ActionsFit types_of parts.3)

-- a resolved command fits the tables, whatever their columns' types
unfoldable pub Fits : Schema → Resolved → Type 0
Fits schema plain = Unit {0}
Fits schema new_table = Unit {0}
Fits schema (table id) = Unit {0}
Fits schema (rule parts) = PartsFit schema parts
Fits schema (query q) =
    (types_of : Source → List ColumnType) → AreTypesOf schema types_of →
    (ts : List ColumnType) × QueryFits types_of [] q ts
Fits schema (change s) =
    (types_of : Source → List ColumnType) → AreTypesOf schema types_of → StatementFits types_of s

-- each command that is resolved fits the tables
abbrev pub ResolvedCommandsFit : Type 0
ResolvedCommandsFit =
    (names : Schema) (command : text.Command) (outcome : Resolved) → walk_names names command ≡ Ok outcome →
    Fits names outcome
