use Rattle.std.proofs.Common.{◌∙◌, ap, slice_set, true}
use Rattle.sb_value.proofs.FlagLaws.{flags_of-with, flag_at-with}
use Rattle.sb_value.proofs.columns.Columns.with.Goals as goal

pub returns : goal.returns
returns c =
    let value = flags_of-with 8 c.args.place c.self.inside.bits c.requires ∙ ap (λ s. slice_set s c.args.place true) c.self.view_is in
    record { value = value; members = flag_at-with 8 c.self.inside.bits c.args.place c.args.self _ c.self.view_is c.requires value }
