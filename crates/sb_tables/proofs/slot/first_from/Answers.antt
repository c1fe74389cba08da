use Rattle.std.proofs.Common.{◌+◌, ◌-◌, ◌/◌, arith, add-one}
use Rattle.sb_tables.proofs.TableLaws.{slots_below, slots_from}
use Rattle.sb_tables.proofs.slot.first_from.Goals as goal

pub loop-low-preserved-then-slots-middle : goal.loop-low-preserved-then-slots-middle
loop-low-preserved-then-slots-middle c =
    let middle = c.loop-low.low + (c.loop-low.high - c.loop-low.low) / 2 in
    record {
      ordered = omega arith;
      within = c.loop-low.invariant.within;
      below = rw add-one (slots_below c.args.slots.now c.requires.0 c.args.number middle c.index-slots-middle.result c.requires.1 (omega arith) c.if-slots-middle.true);
      above = c.loop-low.invariant.above;
    }

pub loop-low-preserved : goal.loop-low-preserved
loop-low-preserved c =
    let middle = c.loop-low.low + (c.loop-low.high - c.loop-low.low) / 2 in
    record {
      ordered = omega arith;
      within = omega arith;
      below = c.loop-low.invariant.below;
      above = slots_from c.args.slots.now c.requires.0 c.args.number middle c.index-slots-middle.result c.requires.1 (omega arith) c.if-slots-middle.false;
    }
