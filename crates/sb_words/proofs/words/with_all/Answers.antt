use Rattle.std.proofs.Common.{◌≡◌, ◌∷◌, ◌∙◌, ◌+◌, List, drop, ap}
use Rattle.clap.specs.Words.{App, app_of, with_rule}
use Rattle.sb_words.specs.Words.{rule_of, with_parts}
use Rattle.sb_words.specs.declared.argument.Argument.{Argument}
use Rattle.sb_words.proofs.Fitting.{split_at}
use Rattle.sb_words.proofs.words.with_all.Goals as goal

one_more : (a b : App) (p : Argument) (rest left : List Argument) → b ≡ with_rule a (rule_of p) → p ∷ rest ≡ left → with_parts b rest ≡ with_parts a left
one_more a b p rest left is split = ap (λ x. with_parts x rest) is ∙ ap (with_parts a) split

pub loop-part-preserved : goal.loop-part-preserved
loop-part-preserved c =
    let ps = c.args.parts.now in
    let k = c.loop-part.part-index in
    one_more (app_of c.loop-part.grown) (app_of c.in_ok-grown.grown) _ (drop (k + 1) ps) (drop k ps) c.in_ok-grown.ensures (split_at ps k _ c.loop-part-test.true) ∙ c.loop-part.invariant
