-- The parts of a rule, as proofs have them, are those of the walk.
use Rattle.std.proofs.Common.{◌≡◌, refl}
use Rattle.std.specs.Prelude.{List, Option, None, Some, Ok}
use Rattle.sb_value.specs.declared.net.Triggers.{Triggers}
use Rattle.sb_value.specs.declared.value.ColumnDefinition.{ColumnDefinition}
use Rattle.sb_syntax.specs.Tree.{RuleText, AlterationText}
use Rattle.sb_syntax.specs.Tree as text
use Rattle.sb_check.specs.Names.{and_then, in_order}
use Rattle.sb_check.specs.Parts.{query_walk}
use Rattle.sb_check.specs.RuleParts.{Parts, NewParts, in_rule, condition_parts, actions_parts, walk_parts, walk_alteration, rule_triggers, rule_condition, rule_actions, written_actions, parts_on, parts, new_parts}
use Rattle.sb_check.specs.Triggers.{walk_triggers}
use Rattle.sb_check.specs.Walk.{Schema, table_named, walk_action}

condition_is : (schema : Schema) (q : Option text.Query) → rule_condition schema q ≡ condition_parts schema q
unfolding rule_condition query_walk
condition_is schema None = refl
condition_is schema (Some q) = refl

pub parts_are : (schema : Schema) (r : RuleText) → parts schema r ≡ walk_parts schema r
unfolding parts_on rule_triggers rule_actions
parts_are schema r = λ i.
    and_then (table_named schema r.table) (λ e.
    and_then (walk_triggers e.table.columns r.triggers) (λ triggers.
    and_then (condition_is (in_rule schema e.table.columns triggers) r.condition i) (λ condition.
    and_then {B = Parts} (in_order (walk_action (in_rule schema e.table.columns triggers)) r.actions) (λ actions.
    Ok (e.id, triggers, condition, actions)))))

written_is : (schema : Schema) (written : Option (List text.Action)) → written_actions schema written ≡ actions_parts schema written
unfolding written_actions rule_actions
written_is schema None = refl
written_is schema (Some written) = refl

pub new_parts_are : (schema : Schema) (columns : List ColumnDefinition) (triggers : Triggers) (r : AlterationText) → new_parts (in_rule schema columns triggers) r ≡ walk_alteration schema columns triggers r
unfolding new_parts
new_parts_are schema columns triggers r = λ i.
    and_then (condition_is (in_rule schema columns triggers) r.condition i) (λ condition.
    and_then {B = NewParts} (written_is (in_rule schema columns triggers) r.actions i) (λ actions.
    Ok (condition, actions)))
