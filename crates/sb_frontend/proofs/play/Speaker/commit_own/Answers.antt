use Rattle.sb_frontend.proofs.Playing.{commits-not-as, commits-told-as}
use Rattle.sb_frontend.proofs.play.Speaker.commit_own.Goals as goal

pub returns-then-not-has_own : goal.returns-then-not-has_own
returns-then-not-has_own g c = commits-not-as c.args.self.now _ c.args.out.now c.has_own-has_own.result c.self.view_is c.has_own-has_own.ensures c.if-not-has_own.true

pub returns : goal.returns
returns g c =
    commits-told-as c.args.self.now _ c.call_own.new.self c.args.out.now c.call_own.new.out c.has_own-has_own.result c.call_own.result c.self.view_is c.has_own-has_own.ensures c.if-not-has_own.false c.call_own.ensures
