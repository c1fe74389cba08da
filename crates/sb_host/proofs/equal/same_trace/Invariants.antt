use Rattle.std.proofs.Common.{◌≡◌, take}
use Rattle.sb_host.proofs.equal.same_trace.Given as goal

-- the considerations so far are the same
abbrev pub invariant-loop-i : goal.invariant-loop-i
invariant-loop-i l = take l.i l.turns ≡ take l.i l.others
