use Rattle.std.proofs.Common.{false}
use Rattle.sb_frontend.proofs.Telling.{made-refuses}
use Rattle.sb_frontend.proofs.tell.tell_plain.Goals as goal

pub returns : goal.returns
returns c = made-refuses c.report_plain-made.result false c.args.refusal.now c.args.out.now c.say_made.new.out c.report_plain-made.ensures c.say_made.ensures
