use Rattle.std.proofs.Common.{arith, sym, ◌∙◌}
use Rattle.std.proofs.lemmas.Simd.{length-zip2}
use Rattle.sb_rows.proofs.Chunks.{seen_changed, word_of_zip2}
use Rattle.sb_rows.proofs.Steps.{changed_more, unchanged}
use Rattle.sb_rows.proofs.compare.select_to_each.Goals as goal

pub loop-k-init : goal.loop-k-init
loop-k-init g c = unchanged _ _ _

pub loop-k-preserved : goal.loop-k-preserved
loop-k-preserved g c =
    changed_more _ _ _ _ _ _ c.loop-k.invariant (omega arith)
    (word_of_zip2 g.R.Relation.holds c.args.numbers.now c.part.result.now c.args.others.now c.part-in-loop-k.result.now c.loop-k.k c.word_to_each.result
    c.word_to_each.ensures c.part.ensures.rows c.part-in-loop-k.ensures.rows (sym c.requires.long))

pub of_words-requires : goal.of_words-requires
of_words-requires g c =
    (seen_changed _ _ _ _ _ c.loop-k.invariant c.loop-k-test.false c.used_words-used.ensures.enough (length-zip2 _ _ _ (sym c.requires.long)) c.requires.few).stored

pub returns : goal.returns
returns g c =
    c.of_words.ensures ∙ (seen_changed _ _ _ _ _ c.loop-k.invariant c.loop-k-test.false c.used_words-used.ensures.enough (length-zip2 _ _ _ (sym c.requires.long)) c.requires.few).seen
