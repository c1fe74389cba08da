use Rattle.std.proofs.Common.{◌∙◌, ap, List, Bool}
use Rattle.sb_value.specs.Flags.{flag_at, union}
use Rattle.sb_value.proofs.FlagLaws.{flags_of-or, flag_at-union}
use Rattle.sb_value.proofs.columns.Columns.union.Goals as goal

pub returns : goal.returns
returns c =
    let value = flags_of-or 8 c.self.inside.bits c.other.inside.bits ∙ (λ i. union (c.self.view_is i) (c.other.view_is i)) in
    record { value = value; members = λ k. ap (λ (s : List Bool). flag_at s k) value ∙ flag_at-union c.args.self c.args.other k }
