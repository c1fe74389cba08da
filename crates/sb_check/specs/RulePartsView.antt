-- Promise: the parts of a rule in the program as the walk's.
use Rattle.std.specs.Prelude.{List, map, Option, option_map, Result, Vec}
use Rattle.std.specs.Global.{Global}
use Rattle.sb_value.specs.declared.refusal.Refusal.{Refusal}
use Rattle.sb_syntax.specs.Tree.{AlterationText, RuleText}
use Rattle.sb_syntax.specs.Views as view
use Rattle.sb_syntax.specs.declared.tree.Action.{Action}
use Rattle.sb_check.specs.declared.tree.Action as tree
use Rattle.sb_check.specs.declared.schema.RuleEntry.{RuleEntry}
use Rattle.sb_check.specs.declared.schema.TableEntry.{TableEntry}
use Rattle.sb_check.specs.Walk.{Schema}
use Rattle.sb_check.specs.declared.rule.RuleParts.{RuleParts}
use Rattle.sb_check.specs.declared.rule.NewParts.{NewParts}
use Rattle.sb_check.specs.RuleParts as walk

abbrev pub rule_parts : RuleParts → walk.Parts
rule_parts r = (r.table, r.triggers, r.condition, r.actions)

abbrev pub new_parts : NewParts → walk.NewParts
new_parts r = (r.condition, r.actions)

-- the walks of a rule's parts, as tables, rules and actions are lent

abbrev pub parts_at : Schema → TableEntry → RuleText → Result walk.Parts Refusal
parts_at schema table r = walk.parts_on schema table.id table.columns.now r

abbrev pub walk_altered : Schema → RuleEntry → AlterationText → Result walk.NewParts Refusal
walk_altered schema rule r = walk.walk_alteration schema rule.columns.now rule.triggers r

abbrev pub written_actions : Schema → Option (Vec Action Global) → Result (Option (List tree.Action)) Refusal
written_actions schema actions = walk.written_actions schema (option_map (λ all. map view.action all.items) actions)
