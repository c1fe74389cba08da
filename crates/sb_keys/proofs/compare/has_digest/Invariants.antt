use Rattle.std.proofs.Common.{◌↔◌, take, IsTrue, Contains}
use Rattle.sb_keys.proofs.compare.has_digest.Given as goal

-- the digest is among those that were looked at
abbrev pub invariant-loop-own : goal.invariant-loop-own
invariant-loop-own l = IsTrue l.has ↔ Contains (take l.own-index l.digests) l.digest
