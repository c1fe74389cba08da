use Rattle.std.proofs.Common.{◌∙◌, ◌++◌, ◌∷◌, [], List, ℕ, sym, rules}
use Rattle.sb_wire.specs.Responses.{AnswersLines}
use Rattle.sb_wire.specs.Seen.{piece_seen}
use Rattle.sb_wire.proofs.Answers.{on_ok}
use Rattle.sb_wire.proofs.Responses.{lines_early, lines_one, lines_sent}
use Rattle.sb_wire.proofs.stream.answer_next.Given.{Over}
use Rattle.sb_wire.proofs.stream.answer_next.Goals as goal
use Rattle.sb_wire.proofs.stream.answer_next.Goals.{After-write_out}

-- the line is answered, but its text finds no memory
early : (g : Over) (c : After-write_out g) → (left : List ℕ)
    × AnswersLines (g.A.Responder.responds c.args.responder.now) g.A.Responder.over (c.args.first.now, c.args.second.now) (g.W.Write.contents c.args.writer.now) c.args.out.now.items (piece_seen c.args.piece ∷ [])
    (c.respond.new.first, c.respond.new.second) (g.W.Write.contents c.write_out.new.writer) left
early g c =
    let a = c.respond.ensures in
    let w = c.write_out.ensures.writes in (
      w.1 ++ a.0,
      lines_early (g.A.Responder.responds c.args.responder.now) g.A.Responder.over (c.args.first.now, c.args.second.now) (c.respond.new.first, c.respond.new.second) (piece_seen c.args.piece) a.0 c.requires a.1
          (g.W.Write.contents c.args.writer.now) (g.W.Write.contents c.write_out.new.writer) c.args.out.now.items w.0 w.1 (sym c.in-Err.ensures.3 ∙ w.2) w.3,
    )

pub returns-in_ok-write_out-in-Err-clause-replies : goal.returns-in_ok-write_out-in-Err-clause-replies
returns-in_ok-write_out-in-Err-clause-replies g c = let a = early g (goal.at.returns-in_ok-write_out-in-Err-clause-replies g c).After-write_out in (a.0, a.1, tt)

pub returns-in_err-write_out-in-Err-clause-replies : goal.returns-in_err-write_out-in-Err-clause-replies
returns-in_err-write_out-in-Err-clause-replies g c = let a = early g (goal.at.returns-in_err-write_out-in-Err-clause-replies g c).After-write_out in (a.0, a.1, search rules)

-- the replies wait
pub returns-in-Ok-clause-replies : goal.returns-in-Ok-clause-replies
returns-in-Ok-clause-replies g c =
    let a = c.in-Ok.ensures in (
      c.args.out.now.items ++ a.0,
      lines_one (g.A.Responder.responds c.args.responder.now) g.A.Responder.over (c.args.first.now, c.args.second.now) (c.respond.new.first, c.respond.new.second) (piece_seen c.args.piece) a.0 c.requires a.1
          (g.W.Write.contents c.args.writer.now) c.args.out.now.items,
      sym a.2,
    )

-- the line is answered, and a first part of the replies is written
pub returns-in-Ok-2-clause-replies : goal.returns-in-Ok-2-clause-replies
returns-in-Ok-2-clause-replies g c =
    let a = c.in-Ok-2.ensures in
    let w = c.write_out-in-Ok-2.ensures.writes in
    let one =
    lines_one (g.A.Responder.responds c.args.responder.now) g.A.Responder.over (c.args.first.now, c.args.second.now) (c.respond.new.first, c.respond.new.second) (piece_seen c.args.piece) a.0 c.requires a.1
    (g.W.Write.contents c.args.writer.now) c.args.out.now.items in
    (w.1, lines_sent one (g.W.Write.contents c.write_out-in-Ok-2.new.writer) w.0 w.1 (sym a.2 ∙ w.2) w.3, on_ok c.write_out-in-Ok-2.result (λ x. x.0 ∙ sym x.1) w.4)
