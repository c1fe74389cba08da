use Rattle.std.proofs.Common.{◌≡◌, ◌≤◌, ◌<◌, ◌-◌, ℕ, length, get_or, Some, None}
use Rattle.sb_arena.proofs.moves.fill.Given as goal

-- the places below the index have been filled
abbrev pub invariant-loop-i : goal.invariant-loop-i
invariant-loop-i g l = record {
  within : l.i ≤ l.count;
  at : l.cells.at ≡ l.fn.cells.at;
  len : length l.cells.slots ≡ l.count;
  full : (k : ℕ) → k < l.i → get_or l.cells.slots k None ≡ Some None;
  empty : (k : ℕ) → l.i ≤ k → get_or l.cells.slots k None ≡ None;
}

abbrev pub decreases-loop-i : goal.decreases-loop-i
decreases-loop-i g l = l.count - l.i
