-- Promise: the line that stands with a rule.
use Rattle.std.specs.Prelude.{◌≡◌, List, All, Contains}
use Rattle.sb_catalog.specs.Clauses.{AreClausesOf, parts_of}
use Rattle.sb_catalog.specs.declared.rule.Rule.{Rule}
use Rattle.sb_catalog.specs.ClauseTexts.{create_line}
use Rattle.sb_catalog.specs.declared.clauses.RuleClauses.{RuleClauses}
use Rattle.sb_status.specs.declared.view.RuleView.{RuleView}

-- it has the name of the rule, and the line that is made of these clauses
pub record IsWrittenOf (rule : Rule) (clauses : RuleClauses) (view : RuleView) : Type 0 where
  pub name : view.name.items ≡ rule.name
  pub line : view.line.items ≡ create_line rule.name clauses

-- it is one of the rules, and its clauses mean what the rule does
abbrev pub IsRuleOf : List Rule → RuleView → Type 0
IsRuleOf rules view = (rule : Rule) × (clauses : RuleClauses) × Contains rules rule × AreClausesOf clauses (parts_of rule) × IsWrittenOf rule clauses view

-- each that is shown is
abbrev pub AreRulesOf : List Rule → List RuleView → Type 0
AreRulesOf rules views = All (IsRuleOf rules) views
