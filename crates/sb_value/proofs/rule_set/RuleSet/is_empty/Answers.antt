use Rattle.std.proofs.Common.{◌∙◌, sym, ap, slice_index_or, List, ℕ}
use Rattle.sb_value.specs.Flags.{has_none}
use Rattle.sb_value.specs.Words.{flags_in}
use Rattle.sb_value.proofs.WordLaws.{four, no_bits, word_below}
use Rattle.sb_value.proofs.rule_set.RuleSet.is_empty.Goals as goal

pub returns : goal.returns
returns c =
    let words = c.self.inside.words in
    let h = c.self.invariant in
    no_bits (slice_index_or words 0 0) (slice_index_or words 1 0) (slice_index_or words 2 0) (slice_index_or words 3 0) (word_below 4 words 0 h) (word_below 4 words 1 h) (word_below 4 words 2 h) (word_below 4 words 3 h)
    ∙ ap (λ (ws : List ℕ). has_none (flags_in ws)) (sym (four words h))
    ∙ ap has_none c.self.view_is
