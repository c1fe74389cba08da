use Rattle.sb_rawlog.proofs.KeySteps.{op_step}
use Rattle.sb_rawlog.proofs.Steps.{op_fits}
use Rattle.sb_rawlog.proofs.raw.RawLogChangeLog.op_next.Goals as goal

pub next_for-requires : goal.next_for-requires
next_for-requires c = let s = c.args.spot in let st = c.requires in (st, op_fits s st.change st.who st.table st.kind)

pub returns : goal.returns
returns c = let s = c.args.spot in op_step _ _ s.since _ s.who s.table s.kind c.next_for.result c.next_for.ensures
