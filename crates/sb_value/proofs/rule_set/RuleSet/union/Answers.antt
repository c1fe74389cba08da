use Rattle.std.proofs.Common.{◌∙◌, ap, List, Bool, bit_or}
use Rattle.sb_value.specs.Flags.{flag_at, union}
use Rattle.sb_value.proofs.FlagLaws.{flag_at-union}
use Rattle.sb_value.proofs.WordLaws.{or_is_wordwise, flags_in-four}
use Rattle.sb_value.proofs.rule_set.RuleSet.union.Goals as goal

pub returns : goal.returns
returns c =
    let value = flags_in-four bit_or union or_is_wordwise c.self.inside.words c.other.inside.words c.self.invariant c.other.invariant ∙ (λ i. union (c.self.view_is i) (c.other.view_is i)) in
    record { value = value; members = λ k. ap (λ (s : List Bool). flag_at s k) value ∙ flag_at-union c.args.self c.args.other k }
