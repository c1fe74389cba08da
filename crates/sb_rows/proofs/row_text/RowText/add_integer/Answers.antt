-- the text is whole with the integer
use Rattle.std.proofs.Common.{ap, ◌∙◌}
use Rattle.std.proofs.lemmas.Int.{to_z-of_z}
use mir.Syntax.{w64}
use mir.Val.{SFits}
use Rattle.sb_rows.specs.Lines.{Lines, with_value}
use Rattle.sb_value.specs.declared.value.Value.TheVariants.{Int}
use Rattle.sb_rows.proofs.Wholes.{value_added}
use Rattle.sb_rows.proofs.Readings.{integers_fit}
use Rattle.sb_rows.proofs.row_text.RowText.add_integer.Goals as goal

pub invariant_of-self-2 : goal.invariant_of-self-2
invariant_of-self-2 c =
    let fits : SFits w64 c.args.number = c.ranges.number in
    let printed = simp to_z-of_z at c.in_ok-print_integer.ensures.ok in
    (value_added _ _ _ (Int c.args.number) c.literals_give_values_back.ensures (integers_fit c.args.number fits) c.self.invariant printed).0

pub returns-clause-ok : goal.returns-clause-ok
returns-clause-ok c =
    let fits : SFits w64 c.args.number = c.ranges.number in
    let printed = simp to_z-of_z at c.in_ok-print_integer.ensures.ok in
    (value_added _ _ _ (Int c.args.number) c.literals_give_values_back.ensures (integers_fit c.args.number fits) c.self.invariant printed).1
    ∙ ap (λ (l : Lines). with_value l (Int c.args.number)) c.self.view_is
