use Rattle.std.proofs.Common.{rules, arith, ◌-◌, ◌<◌, length, true, sym, FitsSigned, w64, get_or, pos}
use Rattle.std.proofs.lemmas.Int.{to_z-of_z}
use Rattle.std.proofs.lemmas.Simd.{length-zip2}
use Rattle.sb_rows.proofs.Words.{word_more, word_room, flag_of_zip2, word_none}
use Rattle.sb_rows.proofs.compare.word_to_each.Goals as goal

pub overflow_mul-word : goal.overflow_mul-word
overflow_mul-word g c =
    omega (arith, word_room _ _ _ true c.loop-left.invariant.made c.loop-left-test.true (rw (length-zip2 _ _ _ (sym c.requires.long)) c.requires.few))

pub overflow_add-word : goal.overflow_add-word
overflow_add-word g c =
    omega (arith, word_room _ _ _ c.test.result c.loop-left.invariant.made c.loop-left-test.true (rw (length-zip2 _ _ _ (sym c.requires.long)) c.requires.few))

pub loop-left-preserved : goal.loop-left-preserved
loop-left-preserved g c =
    let fit : FitsSigned w64 (get_or c.args.numbers.now (c.loop-left.left - 1) (pos 0)) = search rules in
    let fits : FitsSigned w64 (get_or c.args.others.now (c.loop-left.left - 1) (pos 0)) = search rules in
    let below : c.loop-left.left - 1 < length c.args.numbers.now = omega arith in
    let beside : c.loop-left.left - 1 < length c.args.others.now = omega arith in
    record {
      within = omega arith;
      made =
          word_more _ _ _ _ c.loop-left.invariant.made c.loop-left-test.true (rw (length-zip2 _ _ _ (sym c.requires.long)) c.loop-left.invariant.within)
          (flag_of_zip2 _ _ _ _ _ below beside (rw (to_z-of_z w64 _ fit, to_z-of_z w64 _ fits) at c.test.ensures));
    }

pub loop-left-init : goal.loop-left-init
loop-left-init g c = record {
  within = omega arith;
  made = word_none _ _ (length-zip2 _ _ _ (sym c.requires.long));
}
