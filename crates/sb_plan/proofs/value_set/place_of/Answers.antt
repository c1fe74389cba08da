use Rattle.std.proofs.Common.{arith}
use Rattle.std.proofs.lemmas.Int.{ints}
use Rattle.sb_plan.proofs.Flagging.{flag_below, flag_beyond}
use Rattle.sb_plan.proofs.value_set.place_of.Goals as goal

pub returns-then-distance-lt0 : goal.returns-then-distance-lt0
returns-then-distance-lt0 c = flag_below c.args.keys.now.flags.items _ (omega (arith, ints))

pub returns-then-distance-len : goal.returns-then-distance-len
returns-then-distance-len c = flag_beyond c.args.keys.now.flags.items _ (omega (arith, ints))

pub returns : goal.returns
returns c = record { within = omega (arith, ints); is = omega (arith, ints) }

pub overflow_sub-distance : goal.overflow_sub-distance
overflow_sub-distance c = omega (arith, ints)

pub overflow_cast-result : goal.overflow_cast-result
overflow_cast-result c = omega (arith, ints)
