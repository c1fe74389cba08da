use Rattle.std.proofs.Common.{◌≡◌, ℕ, ◌<◌, ◌≤◌, length}
use Rattle.sb_host.specs.Comparing.{RowAgrees}
use Rattle.sb_host.specs.Finish.{row_at}
use Rattle.sb_host.proofs.comparing.check_all.Given as goal

-- the rows so far agree, and those that are left are as they were
abbrev pub invariant-loop-at : goal.invariant-loop-at
invariant-loop-at l = record {
  count : length l.rows.items ≡ length l.fn.rows.items;
  left : (k : ℕ) → l.at ≤ k → row_at l.rows.items k ≡ row_at l.fn.rows.items k;
  agree : (k : ℕ) → k < l.at → RowAgrees l.fn.rows.items l.trails k;
}
