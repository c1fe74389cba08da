use Rattle.sb_postgres.specs.Statements.{Leaves}
use Rattle.sb_frontend.proofs.Playing.{all-played, nothing-played, one-more-played}
use Rattle.sb_frontend.proofs.play.Speaker.play_all.Goals as goal

pub statements-init : goal.statements-init
statements-init g c = nothing-played (Leaves c.args.statements.now) c.args.self.now c.args.out.now

pub statements-preserved : goal.statements-preserved
statements-preserved g c =
    one-more-played (Leaves c.args.statements.now) (Leaves c.statements.statements) (Leaves c.play_next.new.statements) c.args.self.now c.statements.self c.play_next.new.self c.args.out.now c.statements.out c.play_next.new.out c.play_next.result
    c.statements-test.true c.statements.invariant c.play_next.ensures.played

pub returns : goal.returns
returns g c =
    all-played (Leaves c.args.statements.now) (Leaves c.statements.statements) (Leaves c.play_next.new.statements) c.args.self.now c.statements.self c.play_next.new.self c.args.out.now c.statements.out c.play_next.new.out c.play_next.result
    c.statements-test.false c.statements.invariant c.play_next.ensures.played
