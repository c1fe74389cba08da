use Rattle.std.specs.Io.KnownBytes.{Keeps}
use Rattle.sb_wire.proofs.stream.read_piece.Given as goal

-- nothing is read yet
abbrev pub invariant-loop-count : goal.invariant-loop-count
invariant-loop-count g l = Keeps (g.R.Read.remaining l.fn.reader) (g.R.Read.remaining l.reader)

abbrev pub decreases-loop-count : goal.decreases-loop-count
decreases-loop-count g l = l.tries.left
