use Rattle.std.proofs.Common.{◌≡◌, drop}
use Rattle.sb_check.specs.TriggerSteps.{with_names}
use Rattle.sb_check.proofs.trigger.with_names.Given as goal

-- the names that are left go into the set so far
abbrev pub invariant-loop-name : goal.invariant-loop-name
invariant-loop-name l = with_names l.columns l.fn.set l.names ≡ with_names l.columns l.set (drop l.name-index l.names)
