use Rattle.std.proofs.Common.{◌≡◌, ◌+◌, ◌++◌, List, ℕ, length}
use Rattle.std.specs.Io.KnownBytes.{Appends}
use Rattle.sb_wire.proofs.stream.write_bytes.Given as goal

-- a first part is written, and the rest is left
abbrev pub invariant-loop-rest : goal.invariant-loop-rest
invariant-loop-rest g l =
    (written : List ℕ) × (l.fn.bytes ≡ written ++ l.rest) × Appends (g.W.Write.contents l.fn.writer) (g.W.Write.contents l.writer) written

abbrev pub decreases-loop-rest : goal.decreases-loop-rest
decreases-loop-rest g l = length l.rest + l.tries.left
