use Rattle.sb_postgres.specs.Statements.{Leaves, bytes_left}
use Rattle.sb_frontend.proofs.Playing.{PlaysUpTo}
use Rattle.sb_frontend.proofs.play.Speaker.play_all.Given as goal

abbrev pub invariant-statements : goal.invariant-statements
invariant-statements g l = PlaysUpTo (Leaves l.initial.statements) l.initial.self l.initial.out (Leaves l.statements) l.self l.out

abbrev pub decreases-statements : goal.decreases-statements
decreases-statements g l = bytes_left l.statements
