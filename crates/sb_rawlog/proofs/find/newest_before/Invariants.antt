use Rattle.std.proofs.Common.{◌≡◌, ◌≤◌, take}
use Rattle.sb_rawlog.specs.Records.{walk}
use Rattle.sb_rawlog.specs.Keys.{fits}
use Rattle.sb_rawlog.proofs.find.newest_before.Given as goal

-- nothing is selected past the index
abbrev pub invariant-loop-i : goal.invariant-loop-i
invariant-loop-i l = record {
  within : l.i ≤ l.end;
  passed : walk (fits l.key) l.since (take l.end l.items) ≡ walk (fits l.key) l.since (take l.i l.items);
}

abbrev pub decreases-loop-i : goal.decreases-loop-i
decreases-loop-i l = l.i
