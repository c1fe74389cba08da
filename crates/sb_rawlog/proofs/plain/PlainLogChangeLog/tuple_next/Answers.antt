use Rattle.sb_rawlog.specs.declared.key.Key.TheVariants.{Tuple}
use Rattle.sb_rawlog.proofs.KeySteps.{in_front, tuple_step}
use Rattle.sb_rawlog.proofs.plain.PlainLogChangeLog.tuple_next.Goals as goal

pub returns : goal.returns
returns c =
    let rs = c.args.self.now.items.items in let s = c.args.spot in
    tuple_step _ rs s.since _ s.who s.table s.tuple c.newest_for.result (in_front _ rs (Tuple s.who s.table s.tuple) c.index.result c.newest_for.result s c.index.ensures.front c.newest_for.ensures)
