use Rattle.sb_frontend.proofs.Playing.{begins-not, begins-told}
use Rattle.sb_frontend.proofs.play.Speaker.begin_for.Goals as goal

pub returns-then-not-needed : goal.returns-then-not-needed
returns-then-not-needed g c = begins-not c.args.needed c.args.self.now c.args.out.now c.if-not-needed.true

pub returns : goal.returns
returns g c = rw (← c.self.view_is) (begins-told c.args.needed _ c.call_own.new.self c.args.out.now c.call_own.new.out c.call_own.result c.if-not-needed.false c.call_own.ensures)
