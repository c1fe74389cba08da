use Rattle.std.proofs.Common.{◌≡◌, ◌∙◌, List, ap, sym, map}
use Rattle.sb_value.specs.declared.value.ColumnDefinition.{ColumnDefinition}
use Rattle.sb_syntax.specs.declared.tree.Trigger.{Trigger}
use Rattle.sb_syntax.specs.Views as view
use Rattle.sb_check.specs.Answer.{refusal_of}
use Rattle.sb_check.specs.RuleParts.{rule_triggers}
use Rattle.sb_check.specs.Triggers.{walk_triggers}
use Rattle.sb_check.proofs.Results.{same_refusal, not_refused}
use Rattle.sb_check.proofs.rule.parts_on.Goals as goal

-- the rule's triggers, where they are read as a slice
as_walked : (columns : List ColumnDefinition) (slice triggers : List Trigger) → slice ≡ triggers → rule_triggers columns (map view.trigger slice) ≡ walk_triggers columns (map view.trigger triggers)
unfolding rule_triggers
as_walked columns slice triggers same = ap (λ ts. walk_triggers columns (map view.trigger ts)) same

pub returns-in-Err-clause-triggers : goal.returns-in-Err-clause-triggers
returns-in-Err-clause-triggers g c e h = same_refusal _ (refusal_of c.in-Err.reason) e (sym (as_walked c.args.table.now.columns.now _ _ c.as_slice.ensures.value) ∙ c.in-Err.ensures) h

pub returns-in-Err-condition-clause-triggers : goal.returns-in-Err-condition-clause-triggers
returns-in-Err-condition-clause-triggers g c e h = absurd (not_refused _ _ c.in-Ok.walked e (as_walked c.args.table.now.columns.now _ _ c.as_slice.ensures.value) c.in-Ok.ensures h)

pub returns-in-Err-all_actions-clause-triggers : goal.returns-in-Err-all_actions-clause-triggers
returns-in-Err-all_actions-clause-triggers g c e h = absurd (not_refused _ _ c.in-Ok.walked e (as_walked c.args.table.now.columns.now _ _ c.as_slice.ensures.value) c.in-Ok.ensures h)

pub returns-clause-triggers : goal.returns-clause-triggers
returns-clause-triggers g c e h = absurd (not_refused _ _ c.in-Ok.walked e (as_walked c.args.table.now.columns.now _ _ c.as_slice.ensures.value) c.in-Ok.ensures h)
