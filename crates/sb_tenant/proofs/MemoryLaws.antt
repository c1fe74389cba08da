-- The definitions never answer that memory ran out, and that the trail is full only where it is: neither a walk nor a statement says so.
use Rattle.std.proofs.Common.{◌≡◌, ℕ, ◌+◌, ◌*◌, Bool, true, false, not, ◌&&◌, ◌==◌, List, [], ◌∷◌, length, Option, Some, None, Result, Ok, Err, refl, sym, ap, ◌∙◌, inl, inr}
use Rattle.sb_tenant.specs.declared.bound.Bound.{Bound}
use Rattle.sb_value.specs.declared.value.ColumnType.{ColumnType}
use Rattle.sb_value.specs.declared.value.ColumnDefinition.{ColumnDefinition}
use Rattle.sb_value.specs.declared.net.Triggers.{Triggers}
use Rattle.sb_value.specs.declared.refusal.Refusal.{Refusal}
use Rattle.sb_value.specs.declared.refusal.Refusal.TheVariants as refusal
use Rattle.sb_value.specs.Table.{Entry}
use Rattle.sb_syntax.specs.Text.{command_of}
use Rattle.sb_syntax.specs.Tree.{Name}
use Rattle.sb_syntax.specs.Tree as text
use Rattle.sb_syntax.specs.declared.tree.ColumnReference.{ColumnReference}
use Rattle.sb_syntax.specs.declared.tree.ColumnReference.TheVariants.{Plain, Qualified}
use Rattle.sb_syntax.specs.declared.tree.SourceReference.{SourceReference}
use Rattle.sb_syntax.specs.declared.tree.TableReference.{TableReference}
use Rattle.sb_syntax.specs.declared.tree.TableReference.TheVariants.{Named, Inserted, Deleted, OldUpdated, NewUpdated}
use Rattle.sb_check.specs.Condition.{Condition}
use Rattle.sb_check.specs.declared.tree.Column.{Column}
use Rattle.sb_check.specs.declared.tree.Source.{Source}
use Rattle.sb_check.specs.declared.tree.Source.TheVariants as source
use Rattle.sb_check.specs.Names.{and_then, in_order, required, some_or, Visible, Scope, holders, only_one, plain_column, source_named, column_of_source, qualified_column, column_in, column_named}
use Rattle.sb_check.specs.Walk.{Schema, table_named, walk_expression, transition_source, has_updates, walk_table, walk_sources, walk_items, walk_select, in_type, walk_condition, walk_operand, walk_filter, walk_query, visible_name, of_types, fitting, walk_assignments, walk_statement, walk_action}
use Rattle.std.specs.Prelude.{nat_lt, if◌then◌else◌}
use Rattle.sb_value.specs.declared.refusal.Refusal.TheVariants.{TooBig, TooManyRows}
use Rattle.sb_check.specs.Condition.{Query}
use Rattle.sb_check.specs.declared.tree.Statement.{Statement}
use Rattle.sb_eval.specs.Seen.{Seen, rows_in, row_count}
use Rattle.sb_eval.specs.Meaning.{rows_of}
use Rattle.sb_eval.specs.Statement.{cost_limit, row_limit, or_overflow, within_cost, within_rows, condition_rows, select_rows, statement_cost, changes_by, rows_after, statement_changes}
use Rattle.sb_value.specs.declared.value.Value.{Value}
use Rattle.sb_value.specs.declared.change.Change.{Change}
use Rattle.sb_value.specs.declared.lock.LockMode.{LockMode}
use Rattle.sb_value.specs.declared.refusal.Verdict.{Verdict}
use Rattle.sb_value.specs.Table.{name_at}
use Rattle.sb_value.specs.Locks.{first_conflict, with_locks}
use Rattle.sb_eval.specs.Seen.{no_transition}
use Rattle.sb_eval.specs.Statement.{query_locks, statement_locks}
use Rattle.sb_value.specs.declared.net.Transition.{Transition}
use Rattle.sb_eval.specs.Target.{target}
use Rattle.sb_eval.specs.Work.{query_work, statement_work}
use Rattle.sb_process.specs.Budget.{with_work, change_work, within_budget}
use Rattle.sb_process.specs.Consider.{statement_effect, select_within}
use Rattle.sb_process.specs.Setting.{Setting, Progress, seen_with}
use Rattle.sb_tenant.proofs.Charging.{with-each}
use Rattle.sb_process.specs.Process.{process}
use Rattle.sb_process.specs.declared.Outcome.{Outcome}
use Rattle.sb_process.specs.declared.Outcome.TheVariants.{Done, ByRule, ByError, ByLimit}
use Rattle.sb_tenant.specs.declared.reply.Answer.{Answer}
use Rattle.sb_tenant.specs.declared.reply.Reply.{Reply}
use Rattle.sb_tenant.specs.declared.reply.Reply.TheVariants as reply
use Rattle.sb_tenant.specs.State.{State, Catalog, session_at, is_open, has_transaction, another_has_transaction, setting_of, progress_of, committed}
use Rattle.sb_catalog.specs.Definitions.{acyclic, new_pairs, is_member, altered_pairs}
use Rattle.sb_tenant.specs.Resolved.{Class, opens, ends, begins, defines, works, Resolved, open_session, end_session, begin, commit, rollback, process_rules, process_ruleset, process_rule, create_table, drop_table, create_rule, alter_rule, drop_rule, activate_rule, deactivate_rule, create_ruleset, drop_ruleset, add_rules, del_rules, query, change}
use Rattle.sb_check.specs.Triggers.{trigger_places, walk_triggers}
use Rattle.sb_check.specs.RuleParts.{Parts, condition_parts, walk_parts, actions_parts, walk_alteration}
use Rattle.sb_catalog.specs.declared.rule.Rule.{Rule}
use Rattle.sb_catalog.specs.Rules.{rule_named, is_active}
use Rattle.sb_tenant.specs.Walk.{unless, walk_lists, walk_rule, of_members, walk, class_of, walk_altered}
use Rattle.sb_tenant.specs.Perform.{reply_rows, change_seen, with_request, reply_of, named, process_at, stays, select_seen, perform_change, perform}
use Rattle.sb_tenant.specs.Step.{first_of, session_refusal, outcome_of, reply_to_command, reply_to, numbered, is_full_for, step}
use Rattle.sb_tenant.specs.declared.reply.Entry.{Entry as TrailEntry}
use Rattle.sb_tenant.specs.Trail.{Extends, is_no_memory, state_of}
use Rattle.sb_tenant.specs.TrailLaws.{AnswersAreNumbered}
use Rattle.std.proofs.lemmas.Bool.{false≢true}

-- what only a trail or want of memory answers
abbrev is_outside : Refusal → Bool
is_outside refusal.NoMemory = true
is_outside refusal.TrailFull = true
is_outside other = false

abbrev says_outside : Reply → Bool
says_outside (reply.No r) = is_outside r
says_outside other = false

-- a result that is there, or a refusal for another reason
pub data IsFine {A : Type 0} : Result A Refusal → Type 0 where
  given : (a : A) → IsFine (Ok a)
  refused : (e : Refusal) → is_outside e ≡ false → IsFine (Err e)

fine-and_then : {A B : Type 0} (r : Result A Refusal) (next : A → Result B Refusal) → IsFine r → ((a : A) → IsFine (next a)) → IsFine (and_then r next)
fine-and_then r next (given a) h = h a
fine-and_then r next (refused e p) h = refused e p

fine-required : {A : Type 0} (b : Bool) (e : Refusal) (next : Result A Refusal) → is_outside e ≡ false → IsFine next → IsFine (required b e next)
fine-required true e next p h = h
fine-required false e next p h = refused e p

fine-some_or : {A : Type 0} (e : Refusal) (o : Option A) → is_outside e ≡ false → IsFine (some_or e o)
fine-some_or e None p = refused e p
fine-some_or e (Some a) p = given a

fine-in_order : {A B : Type 0} (f : A → Result B Refusal) (xs : List A) → ((a : A) → IsFine (f a)) → IsFine (in_order f xs)
fine-in_order f [] h = given []
fine-in_order f (x ∷ xs) h =
    fine-and_then (f x) (λ y. and_then (in_order f xs) (λ ys. Ok (y ∷ ys))) (h x)
    (λ y. fine-and_then (in_order f xs) (λ ys. Ok (y ∷ ys)) (fine-in_order f xs h) (λ ys. given (y ∷ ys)))

-- ---- names

fine-only_one : (cs : List (Column × ColumnType)) → IsFine (only_one cs)
fine-only_one [] = refused refusal.NoColumn refl
fine-only_one (c ∷ []) = given c
fine-only_one (c ∷ d ∷ cs) = refused refusal.Ambiguous refl

fine-plain_column : (depth : ℕ) (scope : Scope) (name : Name) → IsFine (plain_column depth scope name)
fine-plain_column depth [] name = refused refusal.NoColumn refl
fine-plain_column depth (sources ∷ outer) name =
    elim (holders depth 0 sources name) as (λ x. IsFine {A = Column × ColumnType} (elim x [ [] ↦ plain_column (depth + 1) outer name | c ∷ cs ↦ only_one (c ∷ cs) ])) [
      | [] ↦ fine-plain_column (depth + 1) outer name
      | c ∷ cs ↦ fine-only_one (c ∷ cs)
    ]

fine-column_of_source : (depth : ℕ) (s : ℕ × List ColumnDefinition) (name : Name) → IsFine (column_of_source depth s name)
fine-column_of_source depth s name = search (fine-and_then, fine-some_or, given)

fine-qualified_column : (depth : ℕ) (scope : Scope) (table : TableReference) (name : Name) → IsFine (qualified_column depth scope table name)
fine-qualified_column depth [] table name = refused refusal.NoColumn refl
fine-qualified_column depth (sources ∷ outer) table name =
    elim (source_named 0 sources table) as (λ x. IsFine {A = Column × ColumnType} (elim x [ None ↦ qualified_column (depth + 1) outer table name | Some s ↦ column_of_source depth s name ])) [
      | None ↦ fine-qualified_column (depth + 1) outer table name
      | Some s ↦ fine-column_of_source depth s name
    ]

fine-column_named : (scope : Scope) (c : ColumnReference) → IsFine (column_named scope c)
fine-column_named scope (Plain name) = fine-plain_column 0 scope name
fine-column_named scope (Qualified table name) = fine-qualified_column 0 scope table name

-- ---- queries and statements

fine-walk_expression : (scope : Scope) (e : text.Expression) → IsFine (walk_expression scope e)
fine-walk_expression scope (text.literal v) = given _
fine-walk_expression scope (text.column c) = search (fine-and_then, fine-column_named, given)
fine-walk_expression scope (text.binary a op b) = search (fine-and_then, fine-required, given, fine-walk_expression scope a, fine-walk_expression scope b)

fine-of_types : (kinds : List ColumnType) (columns : List ColumnDefinition) → IsFine (of_types kinds columns)
fine-of_types [] cs = given true
fine-of_types (k ∷ ks) [] = given true
fine-of_types (k ∷ ks) (c ∷ cs) = search (fine-required, fine-of_types ks cs)

fine-fitting : (kinds : List ColumnType) (columns : List ColumnDefinition) → IsFine (fitting kinds columns)
fine-fitting kinds columns = search (fine-required, fine-of_types)

module _ (schema : Schema) where
  fine-table_named : (name : Name) → IsFine (table_named schema name)
  fine-table_named name = search fine-some_or

  fine-transition_source : (has : Triggers → Bool) (form : Source) → IsFine (transition_source schema has form)
  fine-transition_source has form =
      elim schema.rule as (λ x. IsFine {A = Source × List ColumnDefinition} (elim x [ None ↦ Err refusal.BadTransition | Some rule ↦ required (has rule.1) refusal.BadTransition (Ok (form, rule.0)) ])) [
        | None ↦ refused refusal.BadTransition refl
        | Some rule ↦ search (fine-required, given)
      ]

  fine-walk_table : (table : TableReference) → IsFine (walk_table schema table)
  fine-walk_table (Named name) = search (fine-and_then, fine-table_named, given)
  fine-walk_table Inserted = fine-transition_source (λ t. t.inserted) source.Inserted
  fine-walk_table Deleted = fine-transition_source (λ t. t.deleted) source.Deleted
  fine-walk_table OldUpdated = fine-transition_source has_updates source.OldUpdated
  fine-walk_table NewUpdated = fine-transition_source has_updates source.NewUpdated

  fine-walk_sources : (taken : List TableReference) (ss : List SourceReference) → IsFine (walk_sources schema taken ss)
  fine-walk_sources taken [] = given []
  fine-walk_sources taken (s ∷ ss) = search (fine-and_then, fine-required, fine-walk_table, fine-walk_sources (visible_name s ∷ taken) ss, given)

  fine-walk_items : (scope : Scope) (sources : List Visible) (its : text.Items) → IsFine (walk_items scope sources its)
  fine-walk_items scope sources text.all = given _
  fine-walk_items scope sources text.count = given _
  fine-walk_items scope sources (text.sum_of e) = search (fine-and_then, fine-required, fine-walk_expression, given)
  fine-walk_items scope sources (text.each_of es) = search (fine-and_then, fine-in_order, fine-walk_expression, given)

  fine-walk_select : (its : text.Items) (sources : List SourceReference) (filter : Scope → Result Condition Refusal) → ((scope : Scope) → IsFine (filter scope)) → (scope : Scope) →
      IsFine (walk_select schema its sources filter scope)
  fine-walk_select its sources filter h scope = search (fine-and_then, fine-walk_sources, fine-walk_items, h, given)

  fine-in_type : (k : ColumnType) (ts : List ColumnType) → IsFine (in_type k ts)
  fine-in_type k [] = refused refusal.WrongCount refl
  fine-in_type k (t ∷ []) = search (fine-required, given)
  fine-in_type k (t ∷ u ∷ ts) = refused refusal.WrongCount refl

  mutual
    fine-walk_condition : (c : text.Condition) (scope : Scope) → IsFine (walk_condition schema c scope)
    fine-walk_condition (text.disjunction a b) scope = search (fine-and_then, fine-walk_condition a scope, fine-walk_condition b scope, given)
    fine-walk_condition (text.conjunction a b) scope = search (fine-and_then, fine-walk_condition a scope, fine-walk_condition b scope, given)
    fine-walk_condition (text.negation a) scope = search (fine-and_then, fine-walk_condition a scope, given)
    fine-walk_condition (text.compare a op b) scope = search (fine-and_then, fine-required, fine-walk_expression, fine-walk_operand b scope, given)
    fine-walk_condition (text.is_in a has_not q) scope = search (fine-and_then, fine-walk_expression, fine-walk_query q scope, fine-in_type, given)
    fine-walk_condition (text.exists q) scope = search (fine-and_then, fine-walk_query q scope, given)

    fine-walk_operand : (o : text.Operand) (scope : Scope) → IsFine (walk_operand schema o scope)
    fine-walk_operand (text.expression e) scope = search (fine-and_then, fine-walk_expression, given)
    fine-walk_operand (text.scalar_subquery q) scope = search (fine-and_then, fine-required, fine-walk_query q scope, given)

    fine-walk_filter : (f : text.Filter) (scope : Scope) → IsFine (walk_filter schema f scope)
    fine-walk_filter text.everything scope = given _
    fine-walk_filter (text.those c) scope = fine-walk_condition c scope

    fine-walk_query : (q : text.Query) (scope : Scope) → IsFine (walk_query schema q scope)
    fine-walk_query (text.select its sources filter) scope = fine-walk_select its sources (walk_filter schema filter) (fine-walk_filter filter) scope

  fine-walk_assignments : (e : Entry) (taken : List ℕ) (rest : List text.Assignment) → IsFine (walk_assignments schema e taken rest)
  fine-walk_assignments e taken [] = given []
  fine-walk_assignments e taken (a ∷ rest) =
      fine-and_then (some_or refusal.NoColumn (column_in e.table.columns a.column)) _ (fine-some_or refusal.NoColumn (column_in e.table.columns a.column) refl)
      (λ c. search (fine-and_then, fine-required, fine-walk_operand, fine-walk_assignments e (c.0 ∷ taken) rest, given))

  fine-walk_statement : (c : text.Statement) → IsFine (walk_statement schema c)
  fine-walk_statement (text.insert_rows name rows) = search (fine-and_then, fine-table_named, fine-in_order, fine-fitting, given)
  fine-walk_statement (text.insert_query name q) = search (fine-and_then, fine-table_named, fine-walk_query, fine-fitting, given)
  fine-walk_statement (text.delete name filter) = search (fine-and_then, fine-table_named, fine-walk_filter, given)
  fine-walk_statement (text.update name assignments filter) = search (fine-and_then, fine-table_named, fine-walk_assignments, fine-walk_filter, given)

  fine-walk_action : (x : text.Action) → IsFine (walk_action schema x)
  fine-walk_action (text.changes c) = search (fine-and_then, fine-walk_statement, given)
  fine-walk_action text.rolls_back = given _

-- ---- all commands

fine-rule_named : (rules : List Rule) (name : Name) → IsFine (rule_named rules name)
fine-rule_named rules name = search fine-some_or

fine-trigger_places : (columns : List ColumnDefinition) (t : text.Trigger) → IsFine (trigger_places columns t)
fine-trigger_places columns text.on_insert = given []
fine-trigger_places columns text.on_delete = given []
fine-trigger_places columns text.on_update = given []
fine-trigger_places columns (text.on_update_of names) = search (fine-in_order, fine-some_or)

fine-walk_triggers : (columns : List ColumnDefinition) (triggers : List text.Trigger) → IsFine (walk_triggers columns triggers)
fine-walk_triggers columns triggers = search (fine-and_then, fine-in_order, fine-trigger_places, given)

fine-condition_parts : (schema : Schema) (q : Option text.Query) → IsFine (condition_parts schema q)
fine-condition_parts schema None = given None
fine-condition_parts schema (Some q) = search (fine-and_then, fine-walk_query, given)

fine-walk_parts : (schema : Schema) (r : text.RuleText) → IsFine (walk_parts schema r)
fine-walk_parts schema r =
    search (fine-and_then, fine-table_named, fine-walk_triggers, fine-condition_parts, fine-in_order, fine-walk_action, given) depth 12 fits 4000

fine-acyclic : (rules : List Rule) (pairs more : List (ℕ × ℕ)) → IsFine (acyclic rules pairs more)
fine-acyclic rules pairs more = search (fine-required, given)

fine-new_pairs : (rules : List Rule) (pairs : List (ℕ × ℕ)) (precedes follows : List Name) → IsFine (new_pairs rules pairs precedes follows)
fine-new_pairs rules pairs precedes follows = search (fine-and_then, fine-in_order, fine-rule_named, fine-required, fine-acyclic) depth 9

fine-walk_lists : (catalog : Catalog) (r : text.RuleText) (parts : Parts) → IsFine (walk_lists catalog r parts)
fine-walk_lists catalog r parts = search (fine-and_then, fine-new_pairs, given)

fine-walk_rule : (catalog : Catalog) (r : text.RuleText) → IsFine (walk_rule catalog r)
fine-walk_rule catalog r = search (fine-required, fine-and_then, fine-walk_parts, fine-walk_lists)

fine-actions_parts : (schema : Schema) (actions : Option (List text.Action)) → IsFine (actions_parts schema actions)
fine-actions_parts schema None = given None
fine-actions_parts schema (Some actions) = search (fine-and_then, fine-in_order, fine-walk_action, given)

fine-walk_alteration : (schema : Schema) (columns : List ColumnDefinition) (triggers : Triggers) (r : text.AlterationText) → IsFine (walk_alteration schema columns triggers r)
fine-walk_alteration schema columns triggers r = search (fine-and_then, fine-condition_parts, fine-actions_parts, given)

fine-altered_pairs : (rules : List Rule) (pairs : List (ℕ × ℕ)) (id : ℕ) (r : text.AlterationText) → IsFine (altered_pairs rules pairs id r)
fine-altered_pairs rules pairs id r = search (fine-and_then, fine-in_order, fine-rule_named, fine-required, given) depth 12

fine-found : (found : Option Rule) → IsFine (some_or refusal.NoRule found)
fine-found None = refused refusal.NoRule refl
fine-found (Some rule) = given rule

fine-walk_altered : (catalog : Catalog) (r : text.AlterationText) → IsFine (walk_altered catalog r)
fine-walk_altered catalog r = search (fine-and_then, fine-found, fine-walk_alteration, fine-altered_pairs, given)

fine-of_members : (catalog : Catalog) (name : Name) (rules : List Name) (form : List ℕ → Resolved) → IsFine (of_members catalog name rules form)
fine-of_members catalog name rules form = search (fine-and_then, fine-required, fine-in_order, fine-rule_named, given)

-- by whether there is a ruleset of that name, and whether there are too many
fine-create_ruleset : (name : Name) (taken many : Bool) →
    IsFine (unless (if taken then Some refusal.RulesetExists else (if many then Some refusal.TooManyRulesets else None)) (Ok (create_ruleset name)))
fine-create_ruleset name true many = refused _ refl
fine-create_ruleset name false true = refused _ refl
fine-create_ruleset name false false = given _

pub fine-walk : (catalog : Catalog) (c : text.Command) → IsFine (walk catalog c)
fine-walk catalog text.open_session = given _
fine-walk catalog text.end_session = given _
fine-walk catalog text.begin = given _
fine-walk catalog text.commit = given _
fine-walk catalog text.rollback = given _
fine-walk catalog text.process_rules = given _
fine-walk catalog (text.process_ruleset name) = search (fine-required, given)
fine-walk catalog (text.process_rule name) = search (fine-and_then, fine-rule_named, given)
fine-walk catalog (text.create_table name columns) = search (fine-and_then, fine-required, given)
fine-walk catalog (text.drop_table name) = search (fine-and_then, fine-table_named, fine-required, given)
fine-walk catalog (text.create_rule r) = fine-walk_rule catalog r
fine-walk catalog (text.alter_rule r) = fine-walk_altered catalog r
fine-walk catalog (text.drop_rule name) = search (fine-and_then, fine-rule_named, given)
fine-walk catalog (text.activate_rule name) = search (fine-and_then, fine-rule_named, given)
fine-walk catalog (text.deactivate_rule name) = search (fine-and_then, fine-rule_named, given)
fine-walk catalog (text.create_ruleset name) = fine-create_ruleset name _ _
fine-walk catalog (text.drop_ruleset name) = search (fine-required, given)
fine-walk catalog (text.add_rules name rules) = fine-of_members catalog name rules _
fine-walk catalog (text.del_rules name rules) = fine-of_members catalog name rules _
fine-walk catalog (text.query q) = search (fine-and_then, fine-walk_query, given)
fine-walk catalog (text.change c) = search (fine-and_then, fine-walk_statement, given)

-- ---- statements

fine-or_overflow : {A : Type 0} (o : Option A) → IsFine (or_overflow o)
fine-or_overflow None = refused refusal.Overflow refl
fine-or_overflow (Some a) = given a

fine-within_cost : {A : Type 0} (cost : ℕ) (o : Option A) → IsFine (within_cost cost o)
fine-within_cost {A} cost o = elim (nat_lt cost_limit cost) as (λ b. IsFine {A = A} (if b then Err TooBig else or_overflow o)) [ true ↦ refused refusal.TooBig refl | false ↦ fine-or_overflow o ]

fine-within_rows : {A : Type 0} (count : A → ℕ) (r : Result A Refusal) → IsFine r → IsFine (within_rows count r)
fine-within_rows count r (refused e p) = refused e p
fine-within_rows {A} count r (given a) = elim (nat_lt row_limit (count a)) as (λ b. IsFine {A = A} (if b then Err TooManyRows else Ok a)) [ true ↦ refused refusal.TooManyRows refl | false ↦ given a ]

pub fine-select_rows : (seen : Seen) (q : Query) → IsFine (select_rows seen q)
fine-select_rows seen q = fine-within_rows length (condition_rows seen q) (fine-within_cost _ (rows_of (rows_in seen) q []))

-- within a budget
fine-with_work : {A : Type 0} (work : ℕ) (left : Option ℕ) (next : Option ℕ → Result A Refusal) → ((rest : Option ℕ) → IsFine (next rest)) → IsFine (with_work work left next)
fine-with_work work left next h = with-each work next IsFine left (refused refusal.TooBig refl) h

fine-within_budget : (each : ℕ) (left : Option ℕ) (r : Result (List Change) Refusal) → IsFine r → IsFine (within_budget each left r)
fine-within_budget each left r (refused e p) = refused e p
fine-within_budget each left r (given changes) = fine-with_work (length changes * each) left (λ rest. Ok (changes, rest)) (λ rest. given (changes, rest))

pub fine-select_within : (seen : Seen) (q : Query) (left : Option ℕ) → IsFine (select_within seen q left)
fine-select_within seen q left = fine-with_work (query_work (row_count seen) q) left (λ rest. select_rows seen q) (λ rest. fine-select_rows seen q)

pub fine-statement_changes : (seen : Seen) (s : Statement) → IsFine (statement_changes seen s)
fine-statement_changes seen s = fine-within_rows (rows_after seen s) (within_cost (statement_cost seen s) (changes_by seen s)) (fine-within_cost (statement_cost seen s) (changes_by seen s))

pub fine-effect : (setting : Setting) (tables : Transition) (s : Statement) (p : Progress) → IsFine (statement_effect setting tables s p)
fine-effect setting tables s p =
    let seen = seen_with setting tables p in
    fine-with_work (statement_work seen s) p.left (λ rest. within_budget (change_work setting.rules (target s)) rest (statement_changes seen s))
    (λ rest. fine-within_budget (change_work setting.rules (target s)) rest (statement_changes seen s) (fine-statement_changes seen s))

-- ---- a step

abbrev IsFineIfAny : Option Refusal → Type 0
IsFineIfAny None = Unit {0}
IsFineIfAny (Some r) = is_outside r ≡ false

fine-first_of : (b : Bool) (r : Refusal) (others : Option Refusal) → is_outside r ≡ false → IsFineIfAny others → IsFineIfAny (first_of b r others)
fine-first_of true r others p h = p
fine-first_of false r others p h = h

fine-session_refusal : (class : Class) (state : State) (s : ℕ) → IsFineIfAny (session_refusal class state s)
fine-session_refusal opens state s = fine-first_of (is_open (session_at state s)) refusal.AlreadyOpen None refl tt
fine-session_refusal ends state s = fine-first_of (not (is_open (session_at state s))) refusal.NotOpen None refl tt
fine-session_refusal begins state s =
    fine-first_of (not (is_open (session_at state s))) refusal.NotOpen (first_of (has_transaction (session_at state s)) refusal.InTransaction None) refl
    (fine-first_of (has_transaction (session_at state s)) refusal.InTransaction None refl tt)
fine-session_refusal defines state s =
    fine-first_of (not (is_open (session_at state s))) refusal.NotOpen
    (first_of (has_transaction (session_at state s)) refusal.InTransaction (first_of (another_has_transaction state s) refusal.Busy None)) refl
    (fine-first_of (has_transaction (session_at state s)) refusal.InTransaction (first_of (another_has_transaction state s) refusal.Busy None) refl
    (fine-first_of (another_has_transaction state s) refusal.Busy None refl tt))
fine-session_refusal works state s =
    fine-first_of (not (is_open (session_at state s))) refusal.NotOpen (first_of (not (has_transaction (session_at state s))) refusal.NoTransaction None) refl
    (fine-first_of (not (has_transaction (session_at state s))) refusal.NoTransaction None refl tt)

fine-reply_rows : (r : Result (List (List Value)) Refusal) → IsFine r → says_outside (reply_rows r) ≡ false
fine-reply_rows r (given rows) = refl
fine-reply_rows r (refused e p) = p

fine-change_seen : (state : State) (s : ℕ) (progress : Progress) (r : Result (List Change × Option ℕ) Refusal) → IsFine r → says_outside (change_seen state s progress r).1 ≡ false
fine-change_seen state s progress r (given changes) = refl
fine-change_seen state s progress r (refused e p) = p

fine-with_request : (bound : Bound) (state : State) (s : ℕ) (request : List (ℕ × LockMode)) (next : Progress → State × Reply) → ((p : Progress) → says_outside (next p).1 ≡ false) →
    says_outside (with_request bound state s request next).1 ≡ false
fine-with_request bound state s request next h =
    elim (first_conflict state.locks s request) as (λ x.
    let r : State × Reply = elim x [
      | Some table ↦ (state, reply.No (refusal.Locked (name_at state.catalog.tables table)))
      | None ↦ next (record (progress_of bound.work state s) { locks = with_locks state.locks s request })
    ] in says_outside r.1 ≡ false) [ Some table ↦ refl | None ↦ h _ ]

fine-reply_of : (catalog : Catalog) (outcome : Outcome) (trace : List (List ℕ × Verdict)) → says_outside (reply_of catalog outcome trace) ≡ false
fine-reply_of catalog Done trace = refl
fine-reply_of catalog (ByRule r) trace = refl
fine-reply_of catalog (ByError r e) trace = refl
fine-reply_of catalog ByLimit trace = refl

module _ (tenant : ℕ) (bound : Bound) (state : State) (s : ℕ) where
  fine-process_at : (eligible : ℕ → Bool) (finish : State → State) → says_outside (process_at tenant bound state s eligible finish).1 ≡ false
  fine-process_at eligible finish =
      let p = process bound.considerations (setting_of tenant state s) eligible (progress_of bound.work state s) in fine-reply_of state.catalog p.outcome (named state.catalog p.trace)

  fine-perform : (r : Resolved) → says_outside (perform tenant bound state s r).1 ≡ false
  fine-perform open_session = refl
  fine-perform end_session = refl
  fine-perform begin = refl
  fine-perform commit = fine-process_at (is_active state.catalog.rules) (λ after. committed after s)
  fine-perform rollback = refl
  fine-perform process_rules = fine-process_at (is_active state.catalog.rules) stays
  fine-perform (process_ruleset name) = fine-process_at (λ id. is_active state.catalog.rules id && is_member state.catalog.rulesets name id) stays
  fine-perform (process_rule r) = fine-process_at (λ id. (id == r) && is_active state.catalog.rules id) stays
  fine-perform (create_table name columns) = refl
  fine-perform (drop_table id) = refl
  fine-perform (create_rule new) = refl
  fine-perform (alter_rule new) = refl
  fine-perform (drop_rule id) = refl
  fine-perform (activate_rule id) = refl
  fine-perform (deactivate_rule id) = refl
  fine-perform (create_ruleset name) = refl
  fine-perform (drop_ruleset name) = refl
  fine-perform (add_rules name ids) = refl
  fine-perform (del_rules name ids) = refl
  fine-perform (query q) =
      fine-with_request bound state s (query_locks q) (select_seen tenant state s q)
      (λ p. fine-reply_rows (select_within (seen_with (setting_of tenant state s) no_transition p) q p.left) (fine-select_within (seen_with (setting_of tenant state s) no_transition p) q p.left))
  fine-perform (change statement) =
      fine-with_request bound state s (statement_locks statement) (perform_change tenant state s statement)
      (λ p. fine-change_seen state s p (statement_effect (setting_of tenant state s) no_transition statement p) (fine-effect (setting_of tenant state s) no_transition statement p))

module _ (tenant : ℕ) (bound : Bound) (state : State) (s : ℕ) where
  fine-outcome_of : (r : Option Refusal) (w : Result Resolved Refusal) → IsFineIfAny r → IsFine w → says_outside (outcome_of tenant bound state s r w).1 ≡ false
  fine-outcome_of (Some r) w p h = p
  fine-outcome_of None w p (refused e q) = q
  fine-outcome_of None w p (given r) = fine-perform tenant bound state s r

  fine-reply_to : (line : List ℕ) → says_outside (reply_to tenant bound state s line).1 ≡ false
  fine-reply_to line =
      elim (command_of line) as (λ c.
      let r : State × Reply = elim c [ None ↦ (state, reply.No refusal.Syntax) | Some command ↦ reply_to_command tenant bound state s command ] in says_outside r.1 ≡ false) [
        | None ↦ refl
        | Some command ↦ fine-outcome_of (session_refusal (class_of command) state s) (walk state.catalog command) (fine-session_refusal (class_of command) state s) (fine-walk state.catalog command)
      ]

  pub fine-step : (line : List ℕ) → is_no_memory (step tenant bound state s line).1.reply ≡ false
  fine-step line =
      elim (is_full_for state s line) as (λ b.
      let r : State × Answer = elim b [ true ↦ (state, record { number = None; reply = reply.No refusal.TrailFull }) | false ↦ numbered state (reply_to tenant bound state s line) ] in
      is_no_memory r.1.reply ≡ false) [ true ↦ refl | false ↦ memory (reply_to tenant bound state s line).1 (fine-reply_to line) ]
    where
      memory : (r : Reply) → says_outside r ≡ false → is_no_memory r ≡ false
      memory (reply.No refusal.NoMemory) h = h
      memory other h = refl

  -- a full trail alone is answered without a number
  unnumbered : (line : List ℕ) → (step tenant bound state s line).1.reply ≡ reply.No refusal.TrailFull → (step tenant bound state s line).1.number ≡ None
  unnumbered line =
      elim (is_full_for state s line) as (λ b.
      let r : State × Answer = elim b [ true ↦ (state, record { number = None; reply = reply.No refusal.TrailFull }) | false ↦ numbered state (reply_to tenant bound state s line) ] in
      r.1.reply ≡ reply.No refusal.TrailFull → r.1.number ≡ None) [
        | true ↦ λ told. refl
        | false ↦ λ told. absurd (false≢true (sym (fine-reply_to line) ∙ ap says_outside told))
      ]

-- ---- the answer of a step

module _ (tenant : ℕ) (bound : Bound) where
  has-number : (trail new : List TrailEntry) (s : ℕ) (line : List ℕ) (answer : Answer) → Extends tenant bound trail s line answer new → answer.number ≡ None → ⊥
  has-number trail new s line answer (longer, number, next) none = absurd (let e = sym number ∙ none in cc)

  not-full : (trail new : List TrailEntry) (s : ℕ) (line : List ℕ) (answer : Answer) → Extends tenant bound trail s line answer new → answer.reply ≡ reply.No refusal.TrailFull → ⊥
  not-full trail new s line answer (longer, number, (one, inl (fine, stepped))) full =
      let none = unnumbered tenant bound (state_of tenant bound trail) s line (ap (λ (r : State × Answer). r.1.reply) stepped ∙ full) in
      absurd (let e = sym none ∙ ap (λ (r : State × Answer). r.1.number) stepped in cc)
  not-full trail new s line answer (longer, number, (one, inr (told, aborted, may))) full = absurd (let e = sym told ∙ full in cc)

  pub are_numbered : AnswersAreNumbered tenant bound
  are_numbered trail new s line answer (inl more) = ((λ none. absurd (has-number trail new s line answer more none)), (λ full. absurd (not-full trail new s line answer more full)))
  are_numbered trail new s line answer (inr (full, is, same)) = ((λ none. ap (λ (a : Answer). a.reply) is), (λ told. ap (λ (a : Answer). a.number) is))
