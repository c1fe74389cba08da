use Rattle.sb_frontend.proofs.Playing.{breaks-off}
use Rattle.sb_frontend.proofs.play.Speaker.break_off.Goals as goal

pub returns : goal.returns
returns g c = λ tag holds ls ended. breaks-off tag ls c.args.error c.args.self.now c.give_up.new.self c.args.out.now c.complete.new.self c.tell_unread.new.out holds ended c.complete.ensures.told c.tell_unread.ensures c.give_up.ensures
