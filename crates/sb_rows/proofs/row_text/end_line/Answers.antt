-- the last byte is a comma, or the newline comes behind it
use Rattle.std.proofs.Common.{◌≡◌, ◌∙◌, ℕ, ◌+◌, ◌-◌, List, [], ◌∷◌, ◌++◌, length, sym, arith}
use Rattle.sb_rows.specs.RowText.{line_ended}
use Rattle.sb_rows.proofs.Endings.{line_ended-set, line_ended-other, line_ended-none}
use Rattle.sb_rows.proofs.row_text.end_line.Goals.{else-end-gt0-via-then-end-gt0+else-index-eq44, else-end-gt0-via-else-end-gt0}
use Rattle.sb_rows.proofs.row_text.end_line.Goals as goal

pub returns-then-index-eq44-clause-ok : goal.returns-then-index-eq44-clause-ok
returns-then-index-eq44-clause-ok c = line_ended-set _ _ c.index.result.now (omega (arith, c.len-end.ensures)) (sym c.index.ensures ∙ c.if-index-eq44.true)

pub returns-clause-ok : goal.returns-clause-ok
returns-clause-ok c =
    let text : List ℕ = c.args.text.now.items in
    let behind : text ++ 10 ∷ [] ≡ line_ended text =
    elim c.else-end-gt0.branch [
      | else-end-gt0-via-then-end-gt0+else-index-eq44 w ↦
          let place : c.len-end.result - 1 + 1 ≡ length text = omega (arith, c.len-end.ensures, w.if-end-gt0.true) in
          line_ended-other text (c.len-end.result - 1) w.index.result.now place (λ is. w.if-index-eq44.false (w.index.ensures ∙ is))
      | else-end-gt0-via-else-end-gt0 w ↦
          let none : length text ≡ 0 = omega (arith, c.len-end.ensures, w.if-end-gt0.false) in line_ended-none text none
    ] in
    c.in_ok-push.ensures.items ∙ behind
