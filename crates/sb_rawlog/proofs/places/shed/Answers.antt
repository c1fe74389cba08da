use Rattle.std.proofs.Common.{◌-◌, None, length, get_or, ap, ◌∙◌, arith}
use Rattle.sb_rawlog.proofs.Free.{get-cut}
use Rattle.sb_rawlog.proofs.places.shed.Goals as goal

pub returns-then-can_spare_block-clause-same : goal.returns-then-can_spare_block-clause-same
returns-then-can_spare_block-clause-same c = let can = rw c.if-can_spare_block.true at c.can_spare_block.ensures in λ p. ap (λ l. get_or l p None) c.shrink.ensures ∙ get-cut c.args.arena.now c.args.used (length c.args.arena.now - 4096) (omega (arith, can.unused)) c.requires.unused p
