use Rattle.sb_rawlog.proofs.KeySteps.{op_step}
use Rattle.sb_rawlog.proofs.raw.RawLogChangeLog.op_first.Goals as goal

pub returns : goal.returns
returns c = op_step _ _ c.args.since _ c.args.who c.args.table c.args.kind c.first_for.result c.first_for.ensures
