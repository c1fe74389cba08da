-- one more digit
use Rattle.std.proofs.Common.{arith, refl}
use Rattle.sb_value.proofs.Digits.{size-more, digits-more}
use Rattle.sb_value.proofs.literal.size.Goals as goal

pub loop-digit-preserved : goal.loop-digit-preserved
loop-digit-preserved c = record {
  digits = digits-more c.args.digits.now c.loop-digit.digit-index _ (omega arith) refl (omega arith) (omega arith) c.loop-digit.invariant.digits;
  size = size-more c.args.digits.now c.loop-digit.digit-index _ c.loop-digit.size _ _ (omega arith) refl (omega arith) (omega arith) c.loop-digit.invariant.size c.next_size-size.ensures;
}
