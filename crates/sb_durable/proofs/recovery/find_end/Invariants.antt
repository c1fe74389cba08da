use Rattle.std.proofs.Common.{◌≡◌, ◌≤◌, ◌-◌, List, ℕ, IsTrue}
use Rattle.sb_durable.specs.Ends.{Walked}
use Rattle.sb_durable.proofs.recovery.find_end.Given as goal

abbrev pub invariant-loop-size : goal.invariant-loop-size
invariant-loop-size g l =
    let disk = g.D.Disk in
    record {
      usable : IsTrue (disk.is_usable l.disk);
      same : disk.seen l.disk ≡ disk.seen l.fn.disk;
      clean : IsTrue (disk.is_clean l.disk) → IsTrue (disk.is_clean l.fn.disk);
      crash : (file : List ℕ) → disk.may_leave l.disk file → disk.may_leave l.fn.disk file;
      within : l.at ≤ l.len;
      walked : IsTrue (disk.is_clean l.disk) → Walked (disk.seen l.fn.disk) l.at;
    }

abbrev pub decreases-loop-size : goal.decreases-loop-size
decreases-loop-size g l = l.len - l.at
