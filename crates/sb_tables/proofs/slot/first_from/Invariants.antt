use Rattle.std.proofs.Common.{◌-◌, ◌≤◌, length, take, drop}
use Rattle.sb_tables.specs.Rising.{AllBelow, AllFrom}
use Rattle.sb_tables.specs.Slots.{numbers}
use Rattle.sb_tables.proofs.slot.first_from.Given as goal

-- the place is between the two ends
abbrev pub invariant-loop-low : goal.invariant-loop-low
invariant-loop-low l = record {
  ordered : l.low ≤ l.high;
  within : l.high ≤ length l.slots;
  below : AllBelow l.number (take l.low (numbers l.slots));
  above : AllFrom l.number (drop l.high (numbers l.slots));
}

abbrev pub decreases-loop-low : goal.decreases-loop-low
decreases-loop-low l = l.high - l.low
