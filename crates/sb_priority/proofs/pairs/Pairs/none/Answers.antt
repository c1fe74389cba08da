use Rattle.std.proofs.Common.{[]}
use Rattle.sb_value.specs.Limits.{rule_limit}
use Rattle.sb_priority.proofs.Flags.{none_related}
use Rattle.sb_priority.proofs.pairs.Pairs.none.Goals as goal

pub invariant_of-result : goal.invariant_of-result
invariant_of-result c = ([], λ a b. none_related rule_limit c.empty.result a b (c.empty.ensures.members a), c.new.ensures)

pub returns : goal.returns
returns c a b = none_related rule_limit c.empty.result a b (c.empty.ensures.members a)
