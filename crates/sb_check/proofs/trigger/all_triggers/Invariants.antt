use Rattle.std.proofs.Common.{◌≡◌, drop, map}
use Rattle.sb_syntax.specs.Views.{trigger}
use Rattle.sb_check.specs.TriggerSteps.{with_triggers, no_trigger}
use Rattle.sb_check.proofs.trigger.all_triggers.Given as goal

-- the triggers that are left join those so far
abbrev pub invariant-loop-trigger : goal.invariant-loop-trigger
invariant-loop-trigger l = with_triggers l.columns no_trigger (map trigger l.list) ≡ with_triggers l.columns l.all (map trigger (drop l.trigger-index l.list))
