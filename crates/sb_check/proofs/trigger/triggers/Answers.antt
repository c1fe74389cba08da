use Rattle.std.proofs.Common.{◌∙◌, sym, map}
use Rattle.sb_syntax.specs.Views as view
use Rattle.sb_check.specs.RuleParts.{rule_triggers}
use Rattle.sb_check.proofs.TriggerWalk.{triggers_walk}
use Rattle.sb_check.proofs.trigger.triggers.Goals as goal

-- the triggers taken one at a time are those of the walk
pub returns-in-Ok : goal.returns-in-Ok
unfolding rule_triggers
returns-in-Ok c = sym (triggers_walk c.sets_take_places.ensures c.args.columns.now (map view.trigger c.args.list.now)) ∙ c.in-Ok.ensures

pub returns-in-Err : goal.returns-in-Err
unfolding rule_triggers
returns-in-Err c = sym (triggers_walk c.sets_take_places.ensures c.args.columns.now (map view.trigger c.args.list.now)) ∙ c.in-Err.ensures
