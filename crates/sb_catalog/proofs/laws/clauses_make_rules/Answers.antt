use Rattle.sb_catalog.proofs.MadeLines.{rule_line}
use Rattle.sb_catalog.proofs.laws.clauses_make_rules.Goals as goal

pub returns : goal.returns
returns c = rule_line
