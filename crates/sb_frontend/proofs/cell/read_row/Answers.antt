use Rattle.std.proofs.Common.{◌≡◌, ◌++◌, ◌∷◌, [], Bool, true, false, Some, map, ap, sym, ◌∙◌}
use Rattle.std.proofs.lemmas.List.{map_push}
use Rattle.sb_frontend.specs.Cells.{begins_line, separated}
use Rattle.sb_frontend.proofs.RowReads.{begun_at, goes_on, line_end, not_last, row_ends}
use Rattle.sb_frontend.proofs.cell.read_row.Goals as goal

pub returns-then-begins_line : goal.returns-then-begins_line
returns-then-begins_line c =
    let first : begins_line c.args.text.now ≡ true = sym c.begins_line.ensures ∙ c.if-begins_line.true in
    line_end c.args.text.now _ first (ap (map (λ v. v.items)) c.new-cells.ensures.items)

pub cells-init : goal.cells-init
cells-init c =
    let first : begins_line c.args.text.now ≡ false = sym c.begins_line.ensures ∙ c.if-begins_line.false in
    begun_at c.args.text.now _ first (ap (map (λ v. v.items)) c.new-cells.ensures.items)

pub cells-preserved : goal.cells-preserved
cells-preserved c =
    let more : map (λ v. v.items) c.push.new.self.items ≡ map (λ v. v.items) c.cells.cells.items ++ c.in_ok-cell.cell.items ∷ [] = rw c.in_ok-push.ensures.items (map_push _ c.cells.cells.items c.in_ok-cell.cell) in
    goes_on c.args.text.now c.cells.left.now c.in-Some-true-default.more.now c.in_ok-cell.cell.items (map (λ v. v.items) c.cells.cells.items) (map (λ v. v.items) c.push.new.self.items)
    c.cells.invariant c.in_ok-cell.ensures.value.0
    (ap separated (sym c.in_ok-cell.ensures.value.1) ∙ (sym c.in-Some-true-default.ensures ∙ ap (λ (b : Bool). Some (b, c.in-Some-true-default.more.now)) c.in-Some-true-default.field-0-0-test)) more

pub returns-in-Some-false-default : goal.returns-in-Some-false-default
returns-in-Some-false-default c = λ row rest.
    let more : map (λ v. v.items) c.push.new.self.items ≡ map (λ v. v.items) c.cells.cells.items ++ c.in_ok-cell.cell.items ∷ [] = rw c.in_ok-push.ensures.items (map_push _ c.cells.cells.items c.in_ok-cell.cell) in
    row_ends c.args.text.now c.cells.left.now c.in-Some-false-default.more.now c.in_ok-cell.cell.items (map (λ v. v.items) c.cells.cells.items) (map (λ v. v.items) c.push.new.self.items) row rest
    c.cells.invariant c.in_ok-cell.ensures.value.0
    (ap separated (sym c.in_ok-cell.ensures.value.1) ∙ (sym c.in-Some-false-default.ensures ∙ ap (λ (b : Bool). Some (b, c.in-Some-false-default.more.now)) c.in-Some-false-default.field-0-0-test)) more

pub returns-in-None : goal.returns-in-None
returns-in-None c = λ row rest range is.
    absurd (not_last c.args.text.now c.cells.left.now (map (λ v. v.items) c.cells.cells.items) row rest c.cells.invariant (ap separated (sym c.in_ok-cell.ensures.value.1) ∙ sym c.in-None.ensures) range is)
