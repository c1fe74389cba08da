use Rattle.std.proofs.Common.{◌≡◌, ℕ, ◌<◌, ◌≤◌, length}
use Rattle.std.specs.List.Sorted.{IsPermutation}
use Rattle.sb_host.specs.Finish.{row_at}
use Rattle.sb_host.specs.Renewal.{AreEntries}
use Rattle.sb_host.proofs.comparing.check_rows.Given as goal

-- the rows so far are entries, those that are left are as they were, and none has other receipts
abbrev pub invariant-loop-at : goal.invariant-loop-at
invariant-loop-at l = record {
  count : length l.rows.items ≡ length l.fn.rows.items;
  left : (k : ℕ) → l.at ≤ k → row_at l.rows.items k ≡ row_at l.fn.rows.items k;
  same : (k : ℕ) → IsPermutation (row_at l.fn.rows.items k) (row_at l.rows.items k);
  agree : (k : ℕ) → k < l.at → AreEntries l.trail (row_at l.fn.rows.items) k;
}
