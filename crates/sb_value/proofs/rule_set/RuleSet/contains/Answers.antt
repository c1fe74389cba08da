use Rattle.std.proofs.Common.{◌≡◌, ◌∙◌, sym, arith, ◌<◌, ◌*◌, ◌/◌, ◌%◌, slice_index_or}
use Rattle.sb_value.specs.Flags.{flag_at}
use Rattle.sb_value.proofs.FlagLaws.{flag_at-flags_of}
use Rattle.sb_value.proofs.WordLaws.{flag_at-flags_in}
use Rattle.sb_value.proofs.rule_set.RuleSet.contains.Goals as goal

pub returns : goal.returns
returns c =
    let k = c.index-number.result in
    flag_at-flags_of 64 (k % 64) (slice_index_or c.self.inside.words (k / 64) 0) (omega arith)
    ∙ sym (flag_at-flags_in 4 c.self.inside.words k c.self.invariant (omega (arith, c.index-number.ensures.in_range)))
    ∙ (λ i. flag_at (c.self.view_is i) (c.index-number.ensures.value i))
