use Rattle.sb_rawlog.proofs.KeySteps.{tuple_step}
use Rattle.sb_rawlog.proofs.raw.RawLogChangeLog.tuple_first.Goals as goal

pub returns : goal.returns
returns c = tuple_step _ _ c.args.since _ c.args.who c.args.table c.args.tuple c.first_for.result c.first_for.ensures
