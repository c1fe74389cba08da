use Rattle.sb_postgres.specs.declared.told.sqlstate.SqlState.TheVariants.{StatementTooComplex}
use Rattle.sb_frontend.specs.Tellings.{by_limit_text}
use Rattle.sb_frontend.proofs.Saying.{says-made}
use Rattle.sb_frontend.proofs.tell.tell_by_limit.Goals as goal

pub returns : goal.returns
returns c = says-made c.report_by_limit-made.result StatementTooComplex by_limit_text c.args.out.now c.say_made.new.out c.report_by_limit-made.ensures c.say_made.ensures
