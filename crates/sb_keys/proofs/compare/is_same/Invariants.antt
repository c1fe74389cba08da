use Rattle.std.proofs.Common.{◌≡◌, ◌↔◌, take, IsTrue}
use Rattle.sb_keys.proofs.compare.is_same.Given as goal

-- the bytes that were looked at are the same
abbrev pub invariant-loop-i : goal.invariant-loop-i
invariant-loop-i l = IsTrue l.same ↔ (take l.i l.own ≡ take l.i l.digest)
