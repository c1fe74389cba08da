use Rattle.sb_rawlog.specs.declared.key.Key.TheVariants.{Op}
use Rattle.sb_rawlog.proofs.KeySteps.{in_front, op_step}
use Rattle.sb_rawlog.proofs.plain.PlainLogChangeLog.op_next.Goals as goal

pub returns : goal.returns
returns c =
    let rs = c.args.self.now.items.items in let s = c.args.spot in
    op_step _ rs s.since _ s.who s.table s.kind c.newest_for.result (in_front _ rs (Op s.who s.table s.kind) c.index.result c.newest_for.result s c.index.ensures.front c.newest_for.ensures)
