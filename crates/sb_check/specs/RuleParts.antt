-- Promise: the names and types of a rule's text: its table, its triggers, its condition and its actions.
use Rattle.std.specs.Prelude.{ℕ, List, [], Option, None, Some, Result, Ok}
use Rattle.sb_value.specs.declared.value.ColumnDefinition.{ColumnDefinition}
use Rattle.sb_value.specs.declared.net.Triggers.{Triggers}
use Rattle.sb_value.specs.declared.refusal.Refusal.{Refusal}
use Rattle.sb_value.specs.Table.{Entry}
use Rattle.sb_syntax.specs.Tree.{RuleText, AlterationText}
use Rattle.sb_syntax.specs.Tree as text
use Rattle.sb_check.specs.Condition.{Query}
use Rattle.sb_check.specs.declared.tree.Action.{Action}
use Rattle.sb_check.specs.Names.{and_then, in_order}
use Rattle.sb_check.specs.Parts.{query_walk}
use Rattle.sb_check.specs.Triggers.{walk_triggers}
use Rattle.sb_check.specs.Walk.{Schema, table_named, walk_action, walk_query}

-- a table's id, triggers, a condition and actions
abbrev pub Parts : Type 0
Parts = ℕ × Triggers × Option Query × List Action

-- what a rule with these triggers on a table of these columns may name
abbrev pub in_rule : Schema → List ColumnDefinition → Triggers → Schema
in_rule schema columns triggers = record { tables = schema.tables; rule = Some (columns, triggers) }

-- the condition of a rule, if it has one
abbrev pub condition_parts : Schema → Option text.Query → Result (Option Query) Refusal
condition_parts schema None = Ok None
condition_parts schema (Some q) = and_then (walk_query schema q []) (λ w. Ok (Some w.0))

-- the parts of a rule on a table that is found: its triggers in order, its condition, its actions in order
abbrev pub walk_parts_on : Schema → RuleText → Entry → Result Parts Refusal
walk_parts_on schema r e =
    and_then (walk_triggers e.table.columns r.triggers) (λ triggers.
    and_then (condition_parts (in_rule schema e.table.columns triggers) r.condition) (λ condition.
    and_then (in_order (walk_action (in_rule schema e.table.columns triggers)) r.actions) (λ actions.
    Ok (e.id, triggers, condition, actions))))

-- the parts of a rule: its table first
abbrev pub walk_parts : Schema → RuleText → Result Parts Refusal
walk_parts schema r = and_then (table_named schema r.table) (walk_parts_on schema r)

-- what is looked up first, and takes no memory: the table, then the triggers
abbrev pub walk_head : Schema → RuleText → Result Triggers Refusal
walk_head schema r = and_then (table_named schema r.table) (λ e. walk_triggers e.table.columns r.triggers)

-- ---- new parts of a rule that is there

-- a condition and actions, as far as they are written
abbrev pub NewParts : Type 0
NewParts = Option Query × Option (List Action)

-- the actions in order, if they are written
abbrev pub actions_parts : Schema → Option (List text.Action) → Result (Option (List Action)) Refusal
actions_parts schema None = Ok None
actions_parts schema (Some actions) = and_then (in_order (walk_action schema) actions) (λ all. Ok (Some all))

-- the new parts of a rule with these triggers on a table of these columns: its condition, its actions in order
abbrev pub walk_alteration : Schema → List ColumnDefinition → Triggers → AlterationText → Result NewParts Refusal
walk_alteration schema columns triggers r =
    and_then (condition_parts (in_rule schema columns triggers) r.condition) (λ condition.
    and_then (actions_parts (in_rule schema columns triggers) r.actions) (λ actions.
    Ok (condition, actions)))

-- ---- the same under names that proofs don't open by themselves

unfoldable pub rule_triggers : List ColumnDefinition → List text.Trigger → Result Triggers Refusal
rule_triggers columns triggers = walk_triggers columns triggers

unfoldable pub rule_condition : Schema → Option text.Query → Result (Option Query) Refusal
rule_condition schema None = Ok None
rule_condition schema (Some q) = and_then (query_walk schema q []) (λ w. Ok (Some w.0))

unfoldable pub rule_actions : Schema → List text.Action → Result (List Action) Refusal
rule_actions schema actions = in_order (walk_action schema) actions

-- the parts of a rule on a table of these columns
unfoldable pub parts_on : Schema → ℕ → List ColumnDefinition → RuleText → Result Parts Refusal
parts_on schema id columns r =
    and_then (rule_triggers columns r.triggers) (λ triggers.
    and_then (rule_condition (in_rule schema columns triggers) r.condition) (λ condition.
    and_then (rule_actions (in_rule schema columns triggers) r.actions) (λ actions.
    Ok (id, triggers, condition, actions))))

abbrev pub parts : Schema → RuleText → Result Parts Refusal
parts schema r = and_then (table_named schema r.table) (λ e. parts_on schema e.id e.table.columns r)

unfoldable pub written_actions : Schema → Option (List text.Action) → Result (Option (List Action)) Refusal
written_actions schema None = Ok None
written_actions schema (Some actions) = and_then (rule_actions schema actions) (λ all. Ok (Some all))

-- the new parts of a rule, by what it may name
unfoldable pub new_parts : Schema → AlterationText → Result NewParts Refusal
new_parts schema r =
    and_then (rule_condition schema r.condition) (λ condition.
    and_then (written_actions schema r.actions) (λ actions.
    Ok (condition, actions)))
