use Rattle.std.proofs.Common.{◌≡◌, ◌≤◌, ◌<◌, ◌-◌, ℕ, length, get_or, None}
use Rattle.sb_arena.proofs.moves.clear.Given as goal

-- the places below the index have been cleared
abbrev pub invariant-loop-i : goal.invariant-loop-i
invariant-loop-i g l = record {
  within : l.i ≤ l.count;
  at : l.cells.at ≡ l.fn.cells.at;
  len : length l.cells.slots ≡ l.count;
  gone : (k : ℕ) → k < l.i → get_or l.cells.slots k None ≡ None;
  left : (k : ℕ) → l.i ≤ k → get_or l.cells.slots k None ≡ get_or l.fn.cells.slots k None;
}

abbrev pub decreases-loop-i : goal.decreases-loop-i
decreases-loop-i g l = l.count - l.i
