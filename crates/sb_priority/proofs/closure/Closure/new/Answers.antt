use Rattle.sb_value.specs.Limits.{rule_limit}
use Rattle.sb_priority.proofs.Flags.{none_related}
use Rattle.sb_priority.proofs.closure.Closure.new.Goals as goal

pub returns : goal.returns
returns c a b = none_related rule_limit c.empty.result a b (c.empty.ensures.members a)
