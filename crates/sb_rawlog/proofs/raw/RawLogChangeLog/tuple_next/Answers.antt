use Rattle.sb_rawlog.proofs.KeySteps.{tuple_step}
use Rattle.sb_rawlog.proofs.Steps.{tuple_fits}
use Rattle.sb_rawlog.proofs.raw.RawLogChangeLog.tuple_next.Goals as goal

pub next_for-requires : goal.next_for-requires
next_for-requires c = let s = c.args.spot in let st = c.requires in (st, tuple_fits s st.change st.who st.table st.tuple)

pub returns : goal.returns
returns c = let s = c.args.spot in tuple_step _ _ s.since _ s.who s.table s.tuple c.next_for.result c.next_for.ensures
