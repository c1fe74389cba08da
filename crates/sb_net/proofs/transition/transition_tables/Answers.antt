use Rattle.sb_value.specs.NetEffect.{net_effect}
use Rattle.sb_rawlog.specs.Sessions.{changes_since}
use Rattle.sb_net.proofs.Tables.{tables_more}
use Rattle.sb_net.proofs.transition.transition_tables.Goals as goal

pub loop-tuple-preserved : goal.loop-tuple-preserved
loop-tuple-preserved g c =
    tables_more c.args.triggers (net_effect (changes_since c.args.who c.args.since (g.L.ChangeLog.records c.args.log.now)) c.args.table) c.deref-tuple-items.result.now c.loop-tuple.tuple-index
    c.loop-tuple.tables c.push_tuple.new.tables c.loop-tuple-test.true c.loop-tuple.invariant c.in_ok-push_tuple.ensures
