use Rattle.sb_postgres.proofs.Grammar.{ends_at_all}
use Rattle.sb_postgres.proofs.query.reading.check_from.Goals as goal

pub returns : goal.returns
returns c = ends_at_all c.loop-at.at c.args.text.now _ c.loop-at-test.false c.loop-at.invariant.so_far
