use Rattle.memchr.specs.Find.{Nowhere, Passes, is_byte}
use Rattle.sb_wire.specs.Lines.{space}
use Rattle.sb_wire.proofs.address.first_space.Given as goal

-- no space so far
abbrev pub invariant-loop-place : goal.invariant-loop-place
invariant-loop-place l = Nowhere (Passes (is_byte space) l.fn.bytes) 0 l.place
