use Rattle.std.proofs.Common.{◌∙◌, ap, List, Bool, bit_and}
use Rattle.sb_value.specs.Flags.{flag_at, intersection}
use Rattle.sb_value.proofs.FlagLaws.{flag_at-intersection}
use Rattle.sb_value.proofs.WordLaws.{and_is_wordwise, flags_in-four}
use Rattle.sb_value.proofs.rule_set.RuleSet.intersection.Goals as goal

pub returns : goal.returns
returns c =
    let value = flags_in-four bit_and intersection and_is_wordwise c.self.inside.words c.other.inside.words c.self.invariant c.other.invariant ∙ (λ i. intersection (c.self.view_is i) (c.other.view_is i)) in
    record { value = value; members = λ k. ap (λ (s : List Bool). flag_at s k) value ∙ flag_at-intersection c.args.self c.args.other k }
