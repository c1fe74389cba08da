use Rattle.std.proofs.Common.{◌≡◌, map, take}
use Rattle.sb_value.specs.NetEffect.{net_effect}
use Rattle.sb_rawlog.specs.Sessions.{changes_since}
use Rattle.sb_net.specs.Tables.{tables_of}
use Rattle.sb_net.proofs.transition.transition_tables.Given as goal

-- the rows of the tuples so far
abbrev pub invariant-loop-tuple : goal.invariant-loop-tuple
invariant-loop-tuple g l =
    let changes = changes_since l.fn.who l.fn.since (g.L.ChangeLog.records l.log) in
    l.tables ≡ tables_of l.fn.triggers (map (net_effect changes l.fn.table) (take l.tuple-index l.tuple-items))
