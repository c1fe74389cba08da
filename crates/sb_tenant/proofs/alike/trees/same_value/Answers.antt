use Rattle.std.proofs.Common.{sym, ◌∙◌}
use Rattle.sb_value.specs.ValueEquality.{same_value_is}
use Rattle.sb_tenant.proofs.alike.trees.same_value.Goals as goal

pub returns : goal.returns
returns c h = same_value_is c.args.one.now c.args.other.now (sym c.is_same.ensures ∙ h)
