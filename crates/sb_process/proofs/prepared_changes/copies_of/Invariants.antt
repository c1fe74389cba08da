use Rattle.std.proofs.Common.{◌≡◌, ◌+◌, ◌≤◌, length, drop, max}
use Rattle.sb_process.specs.PreparedChanges.{copies_of}
use Rattle.sb_process.proofs.prepared_changes.copies_of.Given as goal

-- the changes from this place on are copied
abbrev pub invariant-loop-left : goal.invariant-loop-left
invariant-loop-left l = record {
  copied : l.copies.items ≡ copies_of (drop l.left l.changes);
  within : l.left ≤ length l.changes;
  count : length l.copies.items + l.left ≡ length l.changes;
  capacity : l.copies.capacity ≡ max 1 (length l.changes);
}

abbrev pub decreases-loop-left : goal.decreases-loop-left
decreases-loop-left l = l.left
