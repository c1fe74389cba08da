use Rattle.sb_net.proofs.Folds.{next_is}
use Rattle.sb_net.proofs.span.older.Goals as goal

pub returns-in-None : goal.returns-in-None
returns-in-None g c =
    next_is (g.L.ChangeLog.stands c.args.log.now) (g.L.ChangeLog.records c.args.log.now) c.args.spot c.get.result.1.now c.get.ensures.change c.tuple_next.result c.tuple_next.ensures
