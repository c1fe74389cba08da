use Rattle.std.proofs.Common.{◌≡◌, drop}
use Rattle.sb_catalog.specs.Members.{without_rules}
use Rattle.sb_catalog.proofs.members.without_all.Given as goal

-- with the rules that are left the set is what it is to be
abbrev pub invariant-loop-rule : goal.invariant-loop-rule
invariant-loop-rule l = without_rules l.others (drop l.rule-index l.rules) ≡ without_rules l.fn.set l.rules
