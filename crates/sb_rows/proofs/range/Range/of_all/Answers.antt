use Rattle.std.proofs.Common.{rules, ◌<◌, ◌∙◌, get_or, length, pos, FitsSigned, w64, arith}
use Rattle.std.proofs.lemmas.Int.{to_z-of_z}
use Rattle.sb_rows.proofs.Ranges.{contains_at, contains_greatest, contains_least, seen_all, seen_more}
use Rattle.sb_rows.proofs.range.Range.of_all.Goals as goal

pub loop-number-init : goal.loop-number-init
loop-number-init c =
    let fit : FitsSigned w64 (get_or c.args.numbers.now 0 (pos 0)) = search rules in
    let some : 0 < length c.args.numbers.now = search rules in
    record {
      seen = λ k h. absurd (omega arith);
      least = contains_at _ 0 _ some (c.single-range.ensures.least ∙ to_z-of_z w64 _ fit);
      greatest = contains_at _ 0 _ some (c.single-range.ensures.greatest ∙ to_z-of_z w64 _ fit);
    }

pub loop-number-preserved : goal.loop-number-preserved
loop-number-preserved c =
    let fit : FitsSigned w64 (get_or c.args.numbers.now c.loop-number.number-index (pos 0)) = search rules in
    let number = contains_at _ c.loop-number.number-index _ c.loop-number-test.true (to_z-of_z w64 _ fit) in
    record {
      seen = seen_more _ _ _ _ _ c.with-range.ensures.least c.with-range.ensures.greatest (to_z-of_z w64 _ fit) c.loop-number.invariant.seen;
      least = contains_least _ _ _ _ c.with-range.ensures.least c.loop-number.invariant.least number;
      greatest = contains_greatest _ _ _ _ c.with-range.ensures.greatest c.loop-number.invariant.greatest number;
    }

pub returns : goal.returns
returns c = record {
  all = seen_all _ _ (λ k h. c.loop-number.invariant.seen k (omega arith));
  least = λ h. c.loop-number.invariant.least;
  greatest = λ h. c.loop-number.invariant.greatest;
}
