use Rattle.std.proofs.Common.{List, subst}
use Rattle.sb_catalog.specs.declared.rule.Rule.{Rule}
use Rattle.sb_status.specs.RuleLines.{AreRulesOf}
use Rattle.sb_status.proofs.tenant_copy.view_of.Goals as goal

pub returns : goal.returns
returns c = record {
  numbers = c.numbers_of.ensures;
  sessions = c.in_ok-sessions.ensures;
  rules = subst (λ (rules : List Rule). AreRulesOf rules c.in_ok-rules.rules.items) c.definitions-definitions.ensures.rules c.in_ok-rules.ensures;
}
