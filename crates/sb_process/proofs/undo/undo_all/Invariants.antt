use Rattle.std.proofs.Common.{◌≡◌, List, length}
use Rattle.sb_rawlog.specs.Sessions.{changes_by, OthersStay}
use Rattle.sb_tables.specs.Held.{Held}
use Rattle.sb_process.specs.Made.{AreMade}
use Rattle.sb_process.proofs.undo.undo_all.Given as goal

-- the changes that are left are made
abbrev pub invariant-loop-change : goal.invariant-loop-change
invariant-loop-change g l = record {
  some : (origin : List Held) × AreMade origin (changes_by l.who (g.L.ChangeLog.records l.log)) l.tables;
  all : (origin : List Held) → AreMade origin (changes_by l.who (g.L.ChangeLog.records l.initial.log)) l.initial.tables → AreMade origin (changes_by l.who (g.L.ChangeLog.records l.log)) l.tables;
  others : OthersStay l.who (g.L.ChangeLog.records l.initial.log) (g.L.ChangeLog.records l.log);
  clock : g.L.ChangeLog.clock l.log ≡ g.L.ChangeLog.clock l.initial.log;
}

abbrev pub decreases-loop-change : goal.decreases-loop-change
decreases-loop-change g l = length (changes_by l.who (g.L.ChangeLog.records l.log))
