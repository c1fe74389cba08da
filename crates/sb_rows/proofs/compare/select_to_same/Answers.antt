use Rattle.std.proofs.Common.{◌≡◌, ◌*◌, map, take, drop, arith, ◌∙◌}
use Rattle.std.specs.Simd.Lanes.{mask_l}
use Rattle.std.proofs.lemmas.List.{length-map}
use Rattle.sb_rows.proofs.Chunks.{seen_changed, word_of_map}
use Rattle.sb_rows.proofs.Steps.{changed_more, unchanged}
use Rattle.sb_rows.proofs.compare.select_to_same.Goals as goal

pub loop-k-init : goal.loop-k-init
loop-k-init g c = unchanged _ _ _

pub loop-k-preserved : goal.loop-k-preserved
loop-k-preserved g c =
    let word : c.word_to_same.result ≡ mask_l (map (λ x. g.R.Relation.holds x c.args.other.now) c.part.result.now) = c.word_to_same.ensures in
    let is : c.part.result.now ≡ take 64 (drop (64 * c.loop-k.k) c.args.numbers.now) = c.part.ensures.rows in
    changed_more _ _ _ _ _ _ c.loop-k.invariant (omega arith) (word_of_map (λ x. g.R.Relation.holds x c.args.other.now) c.args.numbers.now c.part.result.now c.loop-k.k c.word_to_same.result word is)

pub of_words-requires : goal.of_words-requires
of_words-requires g c =
    (seen_changed _ _ _ _ _ c.loop-k.invariant c.loop-k-test.false c.used_words-used.ensures.enough (length-map _ _) c.requires).stored

pub returns : goal.returns
returns g c =
    c.of_words.ensures ∙ (seen_changed _ _ _ _ _ c.loop-k.invariant c.loop-k-test.false c.used_words-used.ensures.enough (length-map _ _) c.requires).seen
