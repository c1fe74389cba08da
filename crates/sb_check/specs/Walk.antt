-- Promise: the walk of queries and statements: the first refusal, or the form with its names resolved.
use Rattle.std.specs.Prelude.{ℕ, Bool, true, false, not, ◌&&◌, ◌||◌, ◌==◌, List, [], ◌∷◌, map, flat_map, length, find, Option, Some, None, Result, Ok, Err}
use Rattle.std.specs.List.{list_any}
use Rattle.sb_value.specs.declared.value.Value.{Value}
use Rattle.sb_value.specs.declared.value.Value.TheVariants as value
use Rattle.sb_value.specs.declared.value.ColumnType.{ColumnType}
use Rattle.sb_value.specs.declared.value.ColumnType.TheVariants.{Int, Text}
use Rattle.sb_value.specs.declared.value.ColumnDefinition.{ColumnDefinition}
use Rattle.sb_value.specs.declared.refusal.Refusal.{Refusal}
use Rattle.sb_value.specs.declared.refusal.Refusal.TheVariants as refusal
use Rattle.sb_value.specs.declared.net.Triggers.{Triggers}
use Rattle.sb_value.specs.Name.{same_name}
use Rattle.sb_value.specs.Table.{Entry}
use Rattle.sb_syntax.specs.Tree.{Name}
use Rattle.sb_syntax.specs.Tree as text
use Rattle.sb_syntax.specs.declared.tree.Arithmetic.{Arithmetic}
use Rattle.sb_syntax.specs.declared.tree.SourceReference.{SourceReference}
use Rattle.sb_syntax.specs.declared.tree.TableReference.{TableReference}
use Rattle.sb_syntax.specs.declared.tree.TableReference.TheVariants.{Named, Inserted, Deleted, OldUpdated, NewUpdated}
use Rattle.sb_check.specs.Expression.{Expression, literal, column, binary}
use Rattle.sb_check.specs.Condition.{Condition, always, disjunction, conjunction, negation, compare, is_in, exists, Operand, expression, scalar_subquery, Query, select}
use Rattle.sb_check.specs.declared.tree.Items.{Items}
use Rattle.sb_check.specs.declared.tree.Items.TheVariants as items
use Rattle.sb_check.specs.declared.tree.Source.{Source}
use Rattle.sb_check.specs.declared.tree.Source.TheVariants as source
use Rattle.sb_check.specs.declared.tree.Assignment.{Assignment}
use Rattle.sb_check.specs.declared.tree.Statement.{Statement}
use Rattle.sb_check.specs.declared.tree.Statement.TheVariants.{InsertRows, InsertQuery, Delete, Update}
use Rattle.sb_check.specs.declared.tree.Action.{Action}
use Rattle.sb_check.specs.declared.tree.Action.TheVariants as action
use Rattle.sb_check.specs.Names.{and_then, in_order, required, some_or, same_table, same_type, Visible, Scope, column_in, column_named}

-- what a statement may name: the tables, and in a rule its table's columns and its triggers
pub record Schema : Type 0 where
  pub tables : List Entry
  pub rule : Option (List ColumnDefinition × Triggers)

-- the table of that name
abbrev pub table_named : Schema → Name → Result Entry Refusal
table_named schema name = some_or refusal.NoTable (find (λ e. same_name e.name name) schema.tables)

-- ---- expressions

-- the type of a value
abbrev pub type_of : Value → ColumnType
type_of (value.Int z) = Int
type_of (value.Text t) = Text

-- a walked expression, with its type
abbrev pub Typed : Type 0
Typed = Expression × ColumnType

-- both sides are integers
abbrev pub joined : Arithmetic → Typed → Typed → Result Typed Refusal
joined op x y = required (same_type x.1 Int && same_type y.1 Int) refusal.BadType (Ok (binary x.0 op y.0, Int))

-- both sides are walked, and then are integers
abbrev pub of_integers : Arithmetic → Result Typed Refusal → Result Typed Refusal → Result Typed Refusal
of_integers op a b =
    and_then a (λ x.
    and_then b (λ y.
    joined op x y))

-- an expression from left to right, with its type
abbrev pub walk_expression : Scope → text.Expression → Result Typed Refusal
walk_expression scope (text.literal v) = Ok (literal v, type_of v)
walk_expression scope (text.column c) = and_then (column_named scope c) (λ p. Ok (column p.0, p.1))
walk_expression scope (text.binary a op b) = of_integers op (walk_expression scope a) (walk_expression scope b)

-- ---- sources

-- a transition table, where the rule has its trigger
abbrev pub transition_source : Schema → (Triggers → Bool) → Source → Result (Source × List ColumnDefinition) Refusal
transition_source schema has form =
    elim schema.rule [
      | None ↦ Err refusal.BadTransition
      | Some rule ↦ required (has rule.1) refusal.BadTransition (Ok (form, rule.0))
    ]

-- true if a rule is triggered by updates of any kind
abbrev pub has_updates : Triggers → Bool
has_updates triggers = triggers.updated || list_any (λ b. b) triggers.columns

-- a source and its columns
abbrev pub walk_table : Schema → TableReference → Result (Source × List ColumnDefinition) Refusal
walk_table schema (Named name) = and_then (table_named schema name) (λ e. Ok (source.Table e.id, e.table.columns))
walk_table schema Inserted = transition_source schema (λ t. t.inserted) source.Inserted
walk_table schema Deleted = transition_source schema (λ t. t.deleted) source.Deleted
walk_table schema OldUpdated = transition_source schema has_updates source.OldUpdated
walk_table schema NewUpdated = transition_source schema has_updates source.NewUpdated

-- the alias of a source, or else its own name
abbrev pub visible_name : SourceReference → TableReference
visible_name s = elim s.alias [ Some a ↦ Named a | None ↦ s.table ]

-- each source in order; its visible name is not taken in this query
abbrev pub walk_sources : Schema → List TableReference → List SourceReference → Result (List (Source × Visible)) Refusal
walk_sources schema taken [] = Ok []
walk_sources schema taken (s ∷ ss) =
    and_then (walk_table schema s.table) (λ t.
    required (not (list_any (same_table (visible_name s)) taken)) refusal.Ambiguous
    (and_then (walk_sources schema (visible_name s ∷ taken) ss) (λ rest.
    Ok ((t.0, record { name = visible_name s; columns = t.1 }) ∷ rest))))

-- ---- queries and conditions

-- a walked query, with the types of its columns
abbrev pub Walked : Type 0
Walked = Query × List ColumnType

-- the items in order, with the types of their columns
abbrev pub walk_items : Scope → List Visible → text.Items → Result (Items × List ColumnType) Refusal
walk_items scope sources text.all = Ok (items.All, flat_map (λ v. map (λ c. c.of) v.columns) sources)
walk_items scope sources text.count = Ok (items.Count, Int ∷ [])
walk_items scope sources (text.sum_of e) =
    and_then (walk_expression scope e) (λ x.
    required (same_type x.1 Int) refusal.BadType (Ok (items.Sum x.0, Int ∷ [])))
walk_items scope sources (text.each_of es) =
    and_then (in_order (walk_expression scope) es) (λ xs. Ok (items.Each (map (λ x. x.0) xs), map (λ x. x.1) xs))

-- the sources, the items, and the condition, whose walk is given
abbrev pub walk_select :
    Schema → text.Items → List SourceReference → (Scope → Result Condition Refusal) → Scope → Result Walked Refusal
walk_select schema its sources filter scope =
    and_then (walk_sources schema [] sources) (λ ss.
    let seen = map (λ s. s.1) ss in
    and_then (walk_items (seen ∷ scope) seen its) (λ i.
    and_then (filter (seen ∷ scope)) (λ c.
    Ok (select i.0 (map (λ s. s.0) ss) c, i.1))))

-- a query as an operand has `count` or `sum`
abbrev pub is_aggregate : text.Items → Bool
is_aggregate text.all = false
is_aggregate text.count = true
is_aggregate (text.sum_of e) = true
is_aggregate (text.each_of es) = false

-- the same of a query
abbrev pub has_aggregate : text.Query → Bool
has_aggregate (text.select its sources filter) = is_aggregate its

-- the query of `in` has exactly one column, of the type of the left side
abbrev pub in_type : ColumnType → List ColumnType → Result Bool Refusal
in_type k [] = Err refusal.WrongCount
in_type k (t ∷ []) = required (same_type k t) refusal.BadType (Ok true)
in_type k (t ∷ u ∷ ts) = Err refusal.WrongCount

-- with `not` where it is written
abbrev pub with_not : Bool → Condition → Condition
with_not true c = negation c
with_not false c = c

-- values of these types fit the columns in order
abbrev pub of_types : List ColumnType → List ColumnDefinition → Result Bool Refusal
of_types [] cs = Ok true
of_types (k ∷ ks) [] = Ok true
of_types (k ∷ ks) (c ∷ cs) = required (same_type k c.of) refusal.BadType (of_types ks cs)

-- as many as the columns, and then of their types in order
abbrev pub fitting : List ColumnType → List ColumnDefinition → Result Bool Refusal
fitting kinds columns = required (length kinds == length columns) refusal.WrongCount (of_types kinds columns)

module _ (schema : Schema) where
  abbrev mutual
    -- a condition from left to right
    pub walk_condition : text.Condition → Scope → Result Condition Refusal
    walk_condition (text.disjunction a b) scope =
        and_then (walk_condition a scope) (λ x.
        and_then (walk_condition b scope) (λ y.
        Ok (disjunction x y)))
    walk_condition (text.conjunction a b) scope =
        and_then (walk_condition a scope) (λ x.
        and_then (walk_condition b scope) (λ y.
        Ok (conjunction x y)))
    walk_condition (text.negation a) scope = and_then (walk_condition a scope) (λ x. Ok (negation x))
    walk_condition (text.compare a op b) scope =
        and_then (walk_expression scope a) (λ x.
        and_then (walk_operand b scope) (λ y.
        required (same_type x.1 y.1) refusal.BadType (Ok (compare x.0 op y.0))))
    walk_condition (text.is_in a has_not q) scope =
        and_then (walk_expression scope a) (λ x.
        and_then (walk_query q scope) (λ w.
        and_then (in_type x.1 w.1) (λ _.
        Ok (with_not has_not (is_in x.0 w.0)))))
    walk_condition (text.exists q) scope = and_then (walk_query q scope) (λ w. Ok (exists w.0))

    pub walk_operand : text.Operand → Scope → Result (Operand × ColumnType) Refusal
    walk_operand (text.expression e) scope = and_then (walk_expression scope e) (λ x. Ok (expression x.0, x.1))
    walk_operand (text.scalar_subquery q) scope =
        and_then (walk_query q scope) (λ w.
        required (has_aggregate q) refusal.WrongCount (Ok (scalar_subquery w.0, Int)))

    pub walk_filter : text.Filter → Scope → Result Condition Refusal
    walk_filter text.everything scope = Ok always
    walk_filter (text.those c) scope = walk_condition c scope

    pub walk_query : text.Query → Scope → Result Walked Refusal
    walk_query (text.select its sources filter) scope = walk_select schema its sources (walk_filter filter) scope

  -- a query that stands alone
  abbrev pub walk_alone : text.Query → Result Query Refusal
  walk_alone q = and_then (walk_query q []) (λ w. Ok w.0)

  -- ---- statements

  abbrev pub visible_table : Entry → Scope
  visible_table e = (record { name = Named e.name; columns = e.table.columns } ∷ []) ∷ []

  -- each assignment in order: its column, which isn't assigned before, its operand, its type
  abbrev pub walk_assignments : Entry → List ℕ → List text.Assignment → Result (List Assignment) Refusal
  walk_assignments e taken [] = Ok []
  walk_assignments e taken (a ∷ rest) =
      and_then (some_or refusal.NoColumn (column_in e.table.columns a.column)) (λ c.
      required (not (list_any (λ k. k == c.0) taken)) refusal.Ambiguous
      (and_then (walk_operand a.operand (visible_table e)) (λ x.
      required (same_type x.1 c.1) refusal.BadType
      (and_then (walk_assignments e (c.0 ∷ taken) rest) (λ others.
      Ok (record { place = c.0; operand = x.0 } ∷ others))))))

  -- a statement: its table, and then its rows, its query, or its assignments and its condition
  abbrev pub walk_statement : text.Statement → Result Statement Refusal
  walk_statement (text.insert_rows name rows) =
      and_then (table_named schema name) (λ e.
      and_then (in_order (λ row. fitting (map type_of row) e.table.columns) rows) (λ _.
      Ok (InsertRows e.id rows)))
  walk_statement (text.insert_query name q) =
      and_then (table_named schema name) (λ e.
      and_then (walk_query q []) (λ w.
      and_then (fitting w.1 e.table.columns) (λ _.
      Ok (InsertQuery e.id w.0))))
  walk_statement (text.delete name filter) =
      and_then (table_named schema name) (λ e.
      and_then (walk_filter filter (visible_table e)) (λ c.
      Ok (Delete e.id c)))
  walk_statement (text.update name assignments filter) =
      and_then (table_named schema name) (λ e.
      and_then (walk_assignments e [] assignments) (λ places.
      and_then (walk_filter filter (visible_table e)) (λ c.
      Ok (Update e.id places c))))

  -- an action of a rule
  abbrev pub walk_action : text.Action → Result Action Refusal
  walk_action (text.changes c) = and_then (walk_statement c) (λ s. Ok (action.Change s))
  walk_action text.rolls_back = Ok action.Rollback
