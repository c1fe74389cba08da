use Rattle.std.proofs.Common.{◌∙◌, ap}
use Rattle.sb_value.specs.Flags.{has_none}
use Rattle.sb_value.proofs.FlagLaws.{has_none-flags_of}
use Rattle.sb_value.proofs.columns.Columns.is_empty.Goals as goal

pub returns : goal.returns
returns c = has_none-flags_of 8 c.self.inside.bits c.self.invariant ∙ ap has_none c.self.view_is
