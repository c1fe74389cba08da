use Rattle.sb_rawlog.specs.Buckets.{list_of}
use Rattle.sb_rawlog.specs.Keys.{fits}
use Rattle.sb_rawlog.specs.Search.{selects}
use Rattle.sb_rawlog.proofs.Ahead.{Ahead, left}
use Rattle.sb_rawlog.proofs.search.search.Given as goal

abbrev pub invariant-steps : goal.invariant-steps
invariant-steps l = Ahead (list_of l.key) (selects (fits l.key) l.since) l.arena l.fn.head l.at

abbrev pub decreases-steps : goal.decreases-steps
decreases-steps l = left l.arena l.at
