use Rattle.sb_catalog.proofs.MadeLines.{actions_line, condition_line}
use Rattle.sb_catalog.proofs.laws.clauses_alter_rules.Goals as goal

pub returns-clause-condition : goal.returns-clause-condition
returns-clause-condition c = condition_line

pub returns-clause-actions : goal.returns-clause-actions
returns-clause-actions c = actions_line
