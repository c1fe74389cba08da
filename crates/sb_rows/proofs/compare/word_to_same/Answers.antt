use Rattle.std.proofs.Common.{rules, arith, ◌-◌, ◌<◌, length, true, FitsSigned, w64, get_or, pos}
use Rattle.std.proofs.lemmas.Int.{to_z-of_z}
use Rattle.std.proofs.lemmas.List.{length-map}
use Rattle.sb_rows.proofs.Words.{word_more, word_room, flag_of_map}
use Rattle.sb_rows.proofs.compare.word_to_same.Goals as goal

pub overflow_mul-word : goal.overflow_mul-word
overflow_mul-word g c =
    omega (arith, word_room _ _ _ true c.loop-left.invariant.made c.loop-left-test.true (rw length-map c.requires))

pub overflow_add-word : goal.overflow_add-word
overflow_add-word g c =
    omega (arith, word_room _ _ _ c.test.result c.loop-left.invariant.made c.loop-left-test.true (rw length-map c.requires))

pub loop-left-preserved : goal.loop-left-preserved
loop-left-preserved g c =
    let fit : FitsSigned w64 (get_or c.args.numbers.now (c.loop-left.left - 1) (pos 0)) = search rules in
    let fits : FitsSigned w64 c.args.other.now = search rules in
    let below : c.loop-left.left - 1 < length c.args.numbers.now = omega arith in
    record {
      within = omega arith;
      made =
          word_more _ _ _ _ c.loop-left.invariant.made c.loop-left-test.true (rw length-map c.loop-left.invariant.within)
          (flag_of_map _ _ _ _ below (rw (to_z-of_z w64 _ fit, to_z-of_z w64 _ fits) at c.test.ensures));
    }
