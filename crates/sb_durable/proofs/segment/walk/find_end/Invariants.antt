use Rattle.std.proofs.Common.{◌≡◌, ◌≤◌, ◌-◌, List, ℕ, IsTrue}
use Rattle.sb_durable.specs.SegmentEnds.{Walked}
use Rattle.sb_durable.proofs.segment.walk.find_end.Given as goal

abbrev pub invariant-loop-next : goal.invariant-loop-next
invariant-loop-next g l =
    let disk = g.D.Disk in
    record {
      usable : IsTrue (disk.is_usable l.disk);
      same : disk.seen l.disk ≡ disk.seen l.fn.disk;
      clean : IsTrue (disk.is_clean l.disk) → IsTrue (disk.is_clean l.fn.disk);
      crash : (file : List ℕ) → disk.may_leave l.disk file → disk.may_leave l.fn.disk file;
      within : l.place.at ≤ l.len;
      walked : Walked (IsTrue (disk.is_clean l.disk)) (disk.seen l.fn.disk) l.fn.first l.place;
    }

abbrev pub decreases-loop-next : goal.decreases-loop-next
decreases-loop-next g l = l.len - l.place.at
