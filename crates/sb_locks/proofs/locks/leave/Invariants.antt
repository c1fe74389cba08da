use Rattle.std.proofs.Common.{◌≡◌, ℕ, not, ◌&&◌, ◌==◌, get_or, ◌<◌, ◌≤◌}
use Rattle.sb_locks.specs.Held.{has}
use Rattle.sb_locks.proofs.locks.leave.Given as goal

-- the tables that were passed lack the session, and the others are as they were
abbrev pub invariant-loop-holders : goal.invariant-loop-holders
invariant-loop-holders l = record {
  left : (t s : ℕ) → t < l.holders-index → has (get_or l.tables t 0) s ≡ (not (s == l.fn.session) && has (get_or l.initial.tables t 0) s);
  kept : (t : ℕ) → l.holders-index ≤ t → get_or l.tables t 0 ≡ get_or l.initial.tables t 0;
}
