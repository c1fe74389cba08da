use Rattle.std.proofs.Common.{false}
use Rattle.sb_frontend.proofs.Telling.{made-refuses}
use Rattle.sb_frontend.proofs.tell.tell_by_error.Goals as goal

pub returns : goal.returns
returns c = made-refuses c.report_by_error-made.result false c.args.error.now c.args.out.now c.say_made.new.out c.report_by_error-made.ensures c.say_made.ensures
