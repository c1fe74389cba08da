use Rattle.std.proofs.Common.{◌≡◌, drop}
use Rattle.sb_rawlog.specs.Records.{change_at}
use Rattle.sb_rawlog.proofs.find.index_of.Given as goal

-- the time lies at the index or past it
abbrev pub invariant-loop-i : goal.invariant-loop-i
invariant-loop-i l = change_at l.time l.items ≡ change_at l.time (drop l.i l.items)
