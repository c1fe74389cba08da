use Rattle.std.proofs.Common.{arith}
use Rattle.std.proofs.lemmas.List.{take_all}
use Rattle.sb_keys.proofs.Members.{more}
use Rattle.sb_keys.proofs.compare.has_digest.Goals as goal

pub loop-own-preserved : goal.loop-own-preserved
loop-own-preserved c =
    more c.args.digests.now c.loop-own.own-index _ c.args.digest.now c.loop-own.has c.is_same-has.result c.loop-own-test.true c.loop-own.invariant c.is_same-has.ensures

pub returns : goal.returns
returns c = rw (take_all c.loop-own.own-index c.args.digests.now (omega arith)) at c.loop-own.invariant
