-- the text is whole with the value
use Rattle.std.proofs.Common.{ap, ◌∙◌}
use Rattle.sb_rows.specs.Lines.{Lines, with_value}
use Rattle.sb_value.specs.declared.value.Value.TheVariants.{Text}
use Rattle.sb_rows.proofs.Wholes.{value_added}
use Rattle.sb_rows.proofs.row_text.RowText.add_text.Goals as goal

pub invariant_of-self-2 : goal.invariant_of-self-2
invariant_of-self-2 c =
    (value_added _ _ _ (Text c.args.text.now) c.literals_give_values_back.ensures (c.as_slice-bytes.ensures.short, c.as_slice-bytes.ensures.printable) c.self.invariant c.in_ok-print_text.ensures.ok).0

pub returns-clause-ok : goal.returns-clause-ok
returns-clause-ok c =
    (value_added _ _ _ (Text c.args.text.now) c.literals_give_values_back.ensures (c.as_slice-bytes.ensures.short, c.as_slice-bytes.ensures.printable) c.self.invariant c.in_ok-print_text.ensures.ok).1
    ∙ ap (λ (l : Lines). with_value l (Text c.args.text.now)) c.self.view_is
