use Rattle.std.proofs.Common.{sym, ◌∙◌}
use Rattle.sb_value.specs.ValueEquality.{same_row_is}
use Rattle.sb_tenant.proofs.alike.same_tables.same_values.Goals as goal

pub returns : goal.returns
returns c h =
    sym c.values.ensures ∙ same_row_is c.values.result.now c.values-2.result.now (sym c.same_row.ensures ∙ h) ∙ c.values-2.ensures
