-- the values so far are added
use Rattle.std.proofs.Common.{◌≡◌, take}
use Rattle.sb_rows.specs.Lines.{with_values}
use Rattle.sb_rows.proofs.row_text.RowText.add_all.Given as goal

abbrev pub invariant-loop-value : goal.invariant-loop-value
invariant-loop-value l = l.self ≡ with_values l.fn.self (take l.value-index l.values)
