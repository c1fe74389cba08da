use Rattle.sb_frontend.specs.Denials.{state_of, text_of}
use Rattle.sb_frontend.proofs.Saying.{says-made}
use Rattle.sb_frontend.proofs.denial.tell_denial.Goals as goal

pub returns : goal.returns
returns c = says-made c.report_of-made.result (state_of c.args.denial) (text_of c.args.denial) c.args.out.now c.say_made.new.out c.report_of-made.ensures c.say_made.ensures
