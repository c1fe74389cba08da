use Rattle.std.proofs.Common.{◌∙◌, ap}
use Rattle.sb_value.specs.Flags.{flag_at}
use Rattle.sb_value.proofs.FlagLaws.{flag_at-flags_of}
use Rattle.sb_value.proofs.columns.Columns.contains.Goals as goal

pub returns : goal.returns
returns c = flag_at-flags_of 8 c.args.place c.self.inside.bits c.requires ∙ ap (λ s. flag_at s c.args.place) c.self.view_is
