use Rattle.std.proofs.Common.{◌≤◌, ◌-◌, length}
use Rattle.sb_rawlog.specs.Places.{HoldSame}
use Rattle.sb_rawlog.proofs.places.grow.Given as goal

-- blocks were added, and there is room to give their places back
abbrev pub invariant-growth : goal.invariant-growth
invariant-growth l = record {
  same : HoldSame l.fn.arena l.arena;
  longer : length l.fn.arena ≤ length l.arena;
  within : length l.arena ≤ l.most;
}

abbrev pub decreases-growth : goal.decreases-growth
decreases-growth l = l.wanted - length l.arena
