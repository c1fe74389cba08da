use Rattle.std.proofs.Common.{◌≡◌, ◌∙◌, sym, ap, subst, refl, Some, option_map}
use Rattle.sb_cell.specs.Tenants.{hosts}
use Rattle.sb_wire.specs.Counts.{step_reply}
use Rattle.sb_wire.specs.Lines.{Piece, addressed_of}
use Rattle.sb_wire.specs.Output.{answer_text, IsAnswer}
use Rattle.sb_wire.specs.Seen.{piece_seen, addressed_seen}
use Rattle.sb_wire.specs.Stream.{states}
use Rattle.sb_wire.proofs.Answers.{addressed_answer}
use Rattle.sb_wire.proofs.answer.answer_piece.Goals as goal

-- the step's answer is the line's
pub returns-in-Some : goal.returns-in-Some
returns-in-Some c =
    let cell = c.args.cell.now in
    let numbers : addressed_of c.in-Line.line.now ≡ Some (addressed_seen c.in-Some.addressed) = sym c.split.ensures ∙ ap (option_map addressed_seen) c.in-Some.is in
    let x = c.answer_line.ensures.answers in (
      answer_text (addressed_seen c.in-Some.addressed) x.0,
      (
        step_reply (addressed_seen c.in-Some.addressed) x.0,
        refl,
        subst (λ (p : Piece). IsAnswer (hosts cell) cell.bound (states cell) p (answer_text (addressed_seen c.in-Some.addressed) x.0) (states c.answer_line.new.cell)) (ap piece_seen (sym c.in-Line.is))
            (addressed_answer (addressed_seen c.in-Some.addressed) cell c.answer_line.new.cell c.in-Line.line.now x.0 numbers x.1),
        c.answer_line.ensures.same,
        x.4,
      ),
      x.2,
      x.3,
    )
