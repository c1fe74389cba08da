use Rattle.sb_frontend.proofs.Playing.{finishes-badly, finishes-well}
use Rattle.sb_frontend.proofs.play.Speaker.finish.Goals as goal

pub returns-then-commit_own : goal.returns-then-commit_own
returns-then-commit_own g c = λ tag holds. finishes-well tag c.args.self.now c.commit_own.new.self c.args.out.now c.commit_own.new.out c.complete.new.self c.commit_own.result holds c.if-commit_own.true c.commit_own.ensures c.complete.ensures.told

pub returns-else-commit_own : goal.returns-else-commit_own
returns-else-commit_own g c = λ tag holds. finishes-badly tag c.args.self.now c.commit_own.new.self c.args.out.now c.commit_own.new.out c.forget.new.self c.commit_own.result c.if-commit_own.false c.commit_own.ensures c.forget.ensures
