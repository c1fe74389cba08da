use Rattle.std.proofs.Common.{◌≡◌, drop}
use Rattle.sb_catalog.specs.Members.{with_rules}
use Rattle.sb_catalog.proofs.members.with_all.Given as goal

-- with the rules that are left the set is what it is to be
abbrev pub invariant-loop-rule : goal.invariant-loop-rule
invariant-loop-rule l = with_rules l.all (drop l.rule-index l.rules) ≡ with_rules l.fn.set l.rules
