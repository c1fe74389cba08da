use Rattle.std.proofs.Common.{◌≡◌, false, length}
use Rattle.sb_wire.specs.Responses.{AnswersBytes}
use Rattle.sb_wire.proofs.stream.answer_bytes.Given as goal

-- the lines that a first part of the bytes completes are answered, and the stream goes on
abbrev pub invariant-loop-rest : goal.invariant-loop-rest
invariant-loop-rest g l =
    (t : AnswersBytes (g.A.Responder.responds l.responder) g.A.Responder.over (l.fn.first, l.fn.second) (g.W.Write.contents l.fn.writer) l.fn.pending.out.items l.fn.pending.lines l.bytes (l.first, l.second) (g.W.Write.contents l.writer) l.pending.out.items)
    × (t.ahead ≡ l.rest) × (t.opened ≡ l.pending.lines) × (g.A.Responder.over (l.first, l.second) ≡ false)

abbrev pub decreases-loop-rest : goal.decreases-loop-rest
decreases-loop-rest g l = length l.rest
