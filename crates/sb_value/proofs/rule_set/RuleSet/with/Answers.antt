use Rattle.std.proofs.Common.{◌≡◌, ◌∙◌, ap, List, Bool, ℕ, length, slice_set, slice_index_or, true, arith, ◌<◌, ◌*◌, ◌/◌, ◌%◌, ◌^◌}
use Rattle.std.proofs.lemmas.Nat.{or_lt}
use Rattle.sb_value.specs.Flags.{flag_at}
use Rattle.sb_value.proofs.FlagLaws.{flags_of-with, flag_at-added}
use Rattle.sb_value.proofs.WordLaws.{word_below, are_words-set, length-flags_in, flags_in-set}
use Rattle.sb_value.proofs.rule_set.RuleSet.with.Goals as goal

pub invariant_of-result : goal.invariant_of-result
invariant_of-result c = are_words-set 4 c.self.inside.words (c.index-number.result / 64) _ c.self.invariant (or_lt 64 _ _ (word_below 4 c.self.inside.words (c.index-number.result / 64) c.self.invariant) (omega arith))

pub returns : goal.returns
returns c =
    let words = c.self.inside.words in
    let k = c.index-number.result in
    let value =
    flags_in-set 4 words k _ true c.self.invariant (omega (arith, c.index-number.ensures.in_range)) (flags_of-with 64 (k % 64) (slice_index_or words (k / 64) 0) (omega arith))
    ∙ (λ i. slice_set (c.self.view_is i) (c.index-number.ensures.value i) true) in
    let long : c.args.rule < length c.args.self = omega (arith, length-flags_in 4 words c.self.invariant, ap length c.self.view_is, c.index-number.ensures.value, c.index-number.ensures.in_range) in
    record { value = value; members = λ j. ap (λ (s : List Bool). flag_at s j) value ∙ flag_at-added c.args.self c.args.rule j long }
