-- The walk of a command looks at the tables' ids, names and columns alone: it is the same over renumbered tables.
use Rattle.std.proofs.Common.{◌≡◌, ◌∙◌, ℕ, ◌||◌, Bool, true, false, not, cond, nat_eq, List, [], ◌∷◌, map, Option, Some, None, Result, Ok, Err, refl, ap}
use Rattle.std.specs.Prelude.{find, option_map}
use Rattle.std.specs.List.{list_any}
use Rattle.sb_value.specs.declared.refusal.Refusal.{Refusal}
use Rattle.sb_value.specs.declared.refusal.Refusal.TheVariants as refusal
use Rattle.sb_value.specs.declared.value.ColumnDefinition.{ColumnDefinition}
use Rattle.sb_value.specs.declared.net.Triggers.{Triggers}
use Rattle.sb_value.specs.Name.{same_name}
use Rattle.sb_value.specs.Table.{Entry, table_at}
use Rattle.sb_syntax.specs.Tree as text
use Rattle.sb_syntax.specs.Tree.{Name, RuleText, AlterationText}
use Rattle.sb_syntax.specs.declared.tree.SourceReference.{SourceReference}
use Rattle.sb_syntax.specs.declared.tree.TableReference.{TableReference}
use Rattle.sb_syntax.specs.declared.tree.TableReference.TheVariants.{Named, Inserted, Deleted, OldUpdated, NewUpdated}
use Rattle.sb_check.specs.Condition.{Condition, disjunction, conjunction, negation, compare, is_in, exists, scalar_subquery, select}
use Rattle.sb_value.specs.declared.value.ColumnType.TheVariants.{Int}
use Rattle.sb_check.specs.declared.tree.Action.TheVariants as action
use Rattle.sb_check.specs.declared.tree.Statement.TheVariants.{InsertQuery, Delete, Update}
use Rattle.sb_check.specs.Names.{and_then, in_order, required, same_table, same_type, some_or, Scope, column_in}
use Rattle.sb_check.specs.Resolved as resolved
use Rattle.sb_check.specs.Resolved.{named_twice, walk_names}
use Rattle.sb_check.specs.RuleParts.{in_rule, condition_parts, actions_parts, walk_parts, walk_alteration}
use Rattle.sb_check.specs.Triggers.{walk_triggers}
use Rattle.sb_check.specs.Walk.{Schema, table_named, walk_expression, walk_table, visible_name, walk_sources, walk_items, walk_select, has_aggregate, in_type, with_not, fitting, walk_condition, walk_operand, walk_filter, walk_query, visible_table, walk_assignments, walk_statement, walk_action}
use Rattle.sb_tenant.specs.AlikeTenants.{Numbering, renumbered_table, renumbered_entry}

abbrev pub renumbered_schema : Numbering → Schema → Schema
renumbered_schema n schema = record schema { tables = map (renumbered_entry n) schema.tables }

-- ---- tables

find-map : {A B : Type 0} (f : A → B) (p : B → Bool) (xs : List A) → find p (map f xs) ≡ option_map f (find (λ x. p (f x)) xs)
find-map f p [] = refl
find-map f p (x ∷ xs) = by (p (f x)) (find-map f p xs)
  where
    by : (b : Bool) → find p (map f xs) ≡ option_map f (find (λ x. p (f x)) xs) → cond b (Some (f x)) (find p (map f xs)) ≡ option_map f (cond b (Some x) (find (λ x. p (f x)) xs))
    by true e = refl
    by false e = e

any-map : {A B : Type 0} (f : A → B) (p : B → Bool) (xs : List A) → list_any p (map f xs) ≡ list_any (λ x. p (f x)) xs
any-map f p [] = refl
any-map f p (x ∷ xs) = ap (λ (b : Bool). p (f x) || b) (any-map f p xs)

pub columns_at : (n : Numbering) (tables : List Entry) (t : ℕ) → (table_at (map (renumbered_entry n) tables) t).columns ≡ (table_at tables t).columns
columns_at n [] t = refl
columns_at n (e ∷ tables) t = by (nat_eq e.id t) (columns_at n tables t)
  where
    by : (b : Bool) → (table_at (map (renumbered_entry n) tables) t).columns ≡ (table_at tables t).columns →
        (cond b (renumbered_table (n e.id) e.table) (table_at (map (renumbered_entry n) tables) t)).columns ≡ (cond b e.table (table_at tables t)).columns
    by true rest = refl
    by false rest = rest

module _ (n : Numbering) where
  named_same : (schema : Schema) (name : Name) → table_named (renumbered_schema n schema) name ≡ and_then (table_named schema name) (λ e. Ok (renumbered_entry n e))
  named_same schema name = ap (some_or refusal.NoTable) (find-map (renumbered_entry n) (λ e. same_name e.name name) schema.tables) ∙ by (find (λ e. same_name e.name name) schema.tables)
    where
      by : (o : Option Entry) → some_or refusal.NoTable (option_map (renumbered_entry n) o) ≡ and_then (some_or refusal.NoTable o) (λ e. Ok (renumbered_entry n e))
      by None = refl
      by (Some e) = refl

  -- what follows the look-up of a table
  pub after_named : (schema : Schema) {A : Type 0} (name : Name) (next other : Entry → Result A Refusal) → ((e : Entry) → next (renumbered_entry n e) ≡ other e) →
      and_then (table_named (renumbered_schema n schema) name) next ≡ and_then (table_named schema name) other
  after_named schema {A} name next other same = ap (λ (r : Result Entry Refusal). and_then r next) (named_same schema name) ∙ by (table_named schema name)
    where
      by : (r : Result Entry Refusal) → and_then (and_then r (λ e. Ok (renumbered_entry n e))) next ≡ and_then r other
      by (Err refused) = refl
      by (Ok e) = same e

  -- ---- queries

  table_same : (schema : Schema) (t : TableReference) → walk_table (renumbered_schema n schema) t ≡ walk_table schema t
  table_same schema (Named name) = after_named schema name _ _ (λ e. refl)
  table_same schema Inserted = refl
  table_same schema Deleted = refl
  table_same schema OldUpdated = refl
  table_same schema NewUpdated = refl

  sources_same : (schema : Schema) (taken : List TableReference) (sources : List SourceReference) → walk_sources (renumbered_schema n schema) taken sources ≡ walk_sources schema taken sources
  sources_same schema taken [] = refl
  sources_same schema taken (s ∷ sources) = λ i.
      and_then (table_same schema s.table i) (λ t.
      required (not (list_any (same_table (visible_name s)) taken)) refusal.Ambiguous
      (and_then (sources_same schema (visible_name s ∷ taken) sources i) (λ rest.
      Ok ((t.0, record { name = visible_name s; columns = t.1 }) ∷ rest))))

  select_same : (schema : Schema) (items : text.Items) (sources : List SourceReference) (one other : Scope → Result Condition Refusal) → ((scope : Scope) → one scope ≡ other scope) → (scope : Scope) →
      walk_select (renumbered_schema n schema) items sources one scope ≡ walk_select schema items sources other scope
  select_same schema items sources one other same scope = λ i.
      and_then (sources_same schema [] sources i) (λ ss.
      let seen = map (λ s. s.1) ss in
      and_then (walk_items (seen ∷ scope) seen items) (λ its.
      and_then (same (seen ∷ scope) i) (λ c.
      Ok (select its.0 (map (λ s. s.0) ss) c, its.1))))

  mutual
    condition_same : (schema : Schema) (c : text.Condition) (scope : Scope) → walk_condition (renumbered_schema n schema) c scope ≡ walk_condition schema c scope
    condition_same schema (text.disjunction a b) scope = λ i.
        and_then (condition_same schema a scope i) (λ x.
        and_then (condition_same schema b scope i) (λ y.
        Ok (disjunction x y)))
    condition_same schema (text.conjunction a b) scope = λ i.
        and_then (condition_same schema a scope i) (λ x.
        and_then (condition_same schema b scope i) (λ y.
        Ok (conjunction x y)))
    condition_same schema (text.negation a) scope = λ i. and_then (condition_same schema a scope i) (λ x. Ok (negation x))
    condition_same schema (text.compare a op b) scope = λ i.
        and_then (walk_expression scope a) (λ x.
        and_then (operand_same schema b scope i) (λ y.
        required (same_type x.1 y.1) refusal.BadType (Ok (compare x.0 op y.0))))
    condition_same schema (text.is_in a has_not q) scope = λ i.
        and_then (walk_expression scope a) (λ x.
        and_then (query_same schema q scope i) (λ w.
        and_then (in_type x.1 w.1) (λ _.
        Ok (with_not has_not (is_in x.0 w.0)))))
    condition_same schema (text.exists q) scope = λ i. and_then (query_same schema q scope i) (λ w. Ok (exists w.0))

    operand_same : (schema : Schema) (o : text.Operand) (scope : Scope) → walk_operand (renumbered_schema n schema) o scope ≡ walk_operand schema o scope
    operand_same schema (text.expression e) scope = refl
    operand_same schema (text.scalar_subquery q) scope = λ i.
        and_then (query_same schema q scope i) (λ w.
        required (has_aggregate q) refusal.WrongCount (Ok (scalar_subquery w.0, Int)))

    filter_same : (schema : Schema) (f : text.Filter) (scope : Scope) → walk_filter (renumbered_schema n schema) f scope ≡ walk_filter schema f scope
    filter_same schema text.everything scope = refl
    filter_same schema (text.those c) scope = condition_same schema c scope

    pub query_same : (schema : Schema) (q : text.Query) (scope : Scope) → walk_query (renumbered_schema n schema) q scope ≡ walk_query schema q scope
    query_same schema (text.select items sources filter) scope =
        select_same schema items sources (walk_filter (renumbered_schema n schema) filter) (walk_filter schema filter) (filter_same schema filter) scope

  -- ---- statements

  assignments_same : (schema : Schema) (e : Entry) (taken : List ℕ) (assignments : List text.Assignment) →
      walk_assignments (renumbered_schema n schema) (renumbered_entry n e) taken assignments ≡ walk_assignments schema e taken assignments
  assignments_same schema e taken [] = refl
  assignments_same schema e taken (a ∷ rest) = λ i.
      and_then (some_or refusal.NoColumn (column_in e.table.columns a.column)) (λ c.
      required (not (list_any (λ k. nat_eq k c.0) taken)) refusal.Ambiguous
      (and_then (operand_same schema a.operand (visible_table schema e) i) (λ x.
      required (same_type x.1 c.1) refusal.BadType
      (and_then (assignments_same schema e (c.0 ∷ taken) rest i) (λ others.
      Ok (record { place = c.0; operand = x.0 } ∷ others))))))

  pub statement_same : (schema : Schema) (s : text.Statement) → walk_statement (renumbered_schema n schema) s ≡ walk_statement schema s
  statement_same schema (text.insert_rows name rows) = after_named schema name _ _ (λ e. refl)
  statement_same schema (text.insert_query name q) =
      after_named schema name _ _ (λ e i.
      and_then (query_same schema q [] i) (λ w.
      and_then (fitting w.1 e.table.columns) (λ _.
      Ok (InsertQuery e.id w.0))))
  statement_same schema (text.delete name filter) =
      after_named schema name _ _ (λ e i. and_then (filter_same schema filter (visible_table schema e) i) (λ c. Ok (Delete e.id c)))
  statement_same schema (text.update name assignments filter) =
      after_named schema name _ _ (λ e i.
      and_then (assignments_same schema e [] assignments i) (λ places.
      and_then (filter_same schema filter (visible_table schema e) i) (λ c.
      Ok (Update e.id places c))))

  -- ---- rules

  action_same : (schema : Schema) (a : text.Action) → walk_action (renumbered_schema n schema) a ≡ walk_action schema a
  action_same schema (text.changes c) = λ i. and_then (statement_same schema c i) (λ s. Ok (action.Change s))
  action_same schema text.rolls_back = refl

  condition_parts_same : (schema : Schema) (q : Option text.Query) → condition_parts (renumbered_schema n schema) q ≡ condition_parts schema q
  condition_parts_same schema None = refl
  condition_parts_same schema (Some q) = λ i. and_then (query_same schema q [] i) (λ w. Ok (Some w.0))

  actions_parts_same : (schema : Schema) (actions : Option (List text.Action)) → actions_parts (renumbered_schema n schema) actions ≡ actions_parts schema actions
  actions_parts_same schema None = refl
  actions_parts_same schema (Some actions) = λ i. and_then (in_order (λ a. action_same schema a i) actions) (λ all. Ok (Some all))

  pub parts_same : (schema : Schema) (r : RuleText) → walk_parts (renumbered_schema n schema) r ≡ walk_parts schema r
  parts_same schema r =
      after_named schema r.table _ _ (λ e i.
      and_then (walk_triggers e.table.columns r.triggers) (λ triggers.
      and_then (condition_parts_same (in_rule schema e.table.columns triggers) r.condition i) (λ condition.
      and_then (in_order (λ a. action_same (in_rule schema e.table.columns triggers) a i) r.actions) (λ actions.
      Ok (e.id, triggers, condition, actions)))))

  pub alteration_same : (schema : Schema) (columns : List ColumnDefinition) (triggers : Triggers) (r : AlterationText) →
      walk_alteration (renumbered_schema n schema) columns triggers r ≡ walk_alteration schema columns triggers r
  alteration_same schema columns triggers r = λ i.
      and_then (condition_parts_same (in_rule schema columns triggers) r.condition i) (λ condition.
      and_then (actions_parts_same (in_rule schema columns triggers) r.actions i) (λ actions.
      Ok (condition, actions)))

  -- ---- names

  pub names_same : (schema : Schema) (command : text.Command) → walk_names (renumbered_schema n schema) command ≡ walk_names schema command
  names_same schema (text.create_table name columns) = λ i.
      required (not (any-map (renumbered_entry n) (λ e. same_name e.name name) schema.tables i)) refusal.TableExists
      (required (not (named_twice columns)) refusal.Ambiguous (Ok resolved.new_table))
  names_same schema (text.drop_table name) = after_named schema name _ _ (λ e. refl)
  names_same schema (text.create_rule r) = λ i. and_then (parts_same schema r i) (λ parts. Ok (resolved.rule parts))
  names_same schema (text.query q) = λ i. and_then (query_same schema q [] i) (λ w. Ok (resolved.query w.0))
  names_same schema (text.change c) = λ i. and_then (statement_same schema c i) (λ s. Ok (resolved.change s))
  names_same schema other = refl
