use Rattle.std.proofs.Common.{◌≡◌, ◌∙◌, ap, List, Bool, ◌++◌, [], arith}
use Rattle.sb_value.specs.Flags.{flags_of, no_flags, flag_at}
use Rattle.sb_value.specs.Words.{flags_in}
use Rattle.sb_value.specs.Limits.{rule_limit}
use Rattle.sb_value.proofs.FlagLaws.{flags_of-zero, flag_at-none}
use Rattle.sb_value.proofs.rule_set.RuleSet.empty.Goals as goal

no_rule : flags_of 64 0 ++ (flags_of 64 0 ++ (flags_of 64 0 ++ (flags_of 64 0 ++ []))) ≡ no_flags rule_limit
no_rule = λ i. flags_of-zero 64 i ++ (flags_of-zero 64 i ++ (flags_of-zero 64 i ++ (flags_of-zero 64 i ++ [])))

pub returns : goal.returns
unfolding flags_in
returns c = record { value = no_rule; members = λ k. ap (λ (s : List Bool). flag_at s k) no_rule ∙ flag_at-none rule_limit k }
