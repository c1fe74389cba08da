use Rattle.std.proofs.Common.{◌≡◌, Some}
use Rattle.sb_rawlog.specs.Links.{time_at, link}
use Rattle.sb_rawlog.proofs.Chains.{Walking}
use Rattle.sb_rawlog.proofs.lists.unlink_behind.Given as goal

-- the place lies past the one that the walk stands at
abbrev pub invariant-steps : goal.invariant-steps
invariant-steps g l = record {
  arena : l.arena ≡ l.fn.arena;
  after : l.after ≡ link l.fn.list l.fn.arena l.fn.place;
  here : Walking l.fn.list l.fn.arena (Some l.fn.first) l.fn.place l.at;
}

abbrev pub decreases-steps : goal.decreases-steps
decreases-steps g l = time_at l.arena l.at
