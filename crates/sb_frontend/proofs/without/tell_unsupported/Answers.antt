use Rattle.sb_frontend.proofs.Saying.{says-made}
use Rattle.sb_frontend.proofs.without.tell_unsupported.Goals as goal

pub returns-clause-told : goal.returns-clause-told
returns-clause-told c = says-made c.report_unsupported-made.result _ _ c.args.out.now c.say_made.new.out c.report_unsupported-made.ensures c.say_made.ensures
