use Rattle.std.proofs.Common.{sym, ◌∙◌}
use Rattle.sb_value.specs.NameEquality.{same_name_is}
use Rattle.sb_tenant.proofs.alike.same_tables.same_name.Goals as goal

pub returns : goal.returns
returns c h = same_name_is c.args.one.now c.args.other.now (sym c.is_same.ensures ∙ h)
