use Rattle.sb_postgres.specs.declared.told.sqlstate.SqlState.TheVariants.{RaiseException}
use Rattle.sb_frontend.specs.Tellings.{by_rule_text}
use Rattle.sb_frontend.proofs.Saying.{says-made}
use Rattle.sb_frontend.proofs.tell.tell_by_rule.Goals as goal

pub returns : goal.returns
returns c = says-made c.report_by_rule-made.result RaiseException (by_rule_text c.args.rule.now) c.args.out.now c.say_made.new.out c.report_by_rule-made.ensures c.say_made.ensures
