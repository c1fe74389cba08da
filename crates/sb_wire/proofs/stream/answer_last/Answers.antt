use Rattle.std.proofs.Common.{◌∙◌, rules}
use Rattle.sb_wire.proofs.Answers.{on_ok}
use Rattle.sb_wire.proofs.Responses.{lines_as, lines_none, lines_sent}
use Rattle.sb_wire.proofs.stream.answer_last.Goals as goal

-- there is none
pub returns-in_default-clause-replies : goal.returns-in_default-clause-replies
returns-in_default-clause-replies g c =
    let w = c.write_out.ensures.writes in
    let none = lines_none (g.A.Responder.responds c.args.responder.now) g.A.Responder.over (c.args.first.now, c.args.second.now) (g.W.Write.contents c.args.writer.now) c.args.pending.now.out.items in
    (w.1, lines_as c.in_default.ensures (lines_sent none (g.W.Write.contents c.write_out.new.writer) w.0 w.1 w.2 w.3), on_ok c.write_out.result (λ x. x.0) w.4)

pub returns-in_err-answer_next-clause-replies : goal.returns-in_err-answer_next-clause-replies
returns-in_err-answer_next-clause-replies g c = let a = c.in_err-answer_next.ensures.replies in (a.0, lines_as c.in-Some.ensures a.1, search rules)

-- it is answered, and what waits is written
pub returns-clause-replies : goal.returns-clause-replies
returns-clause-replies g c =
    let a = c.in_ok-answer_next.ensures.replies in
    let w = c.write_out-2.ensures.writes in
    (w.1, lines_as c.in-Some.ensures (lines_sent a.1 (g.W.Write.contents c.write_out-2.new.writer) w.0 w.1 (a.2 ∙ w.2) w.3), on_ok c.write_out-2.result (λ x. x.0) w.4)
