use Rattle.std.proofs.Common.{◌≡◌, ◌*◌, ◌≤◌, [], List, ℕ, false, length, vec_len}
use Rattle.sb_wire.proofs.Reading.{Reading}
use Rattle.sb_wire.proofs.stream.answer_stream.Given as goal

-- the complete lines so far are answered, each read has given a byte and no more than a piece, and the stream goes on
abbrev pub invariant-loop-read : goal.invariant-loop-read
invariant-loop-read g l =
    (seen : List ℕ)
    × Reading (g.A.Responder.responds l.responder) g.A.Responder.over (l.fn.first, l.fn.second) (g.R.Read.remaining l.fn.reader) (g.W.Write.contents l.fn.writer) seen l.pending.lines (l.first, l.second) (g.R.Read.remaining l.reader) (g.W.Write.contents l.writer)
    × (l._read ≤ length seen) × (length seen ≤ 65536 * l._read) × (l.pending.out.items ≡ []) × (vec_len l.buffer ≡ 65536) × (g.A.Responder.over (l.first, l.second) ≡ false)
