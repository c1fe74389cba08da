use Rattle.std.proofs.Common.{◌≡◌, length, vec_len, ◌∙◌, arith}
use Rattle.sb_rawlog.specs.declared.key.Key.TheVariants.{Tuple}
use Rattle.sb_rawlog.proofs.KeySteps.{in_all, tuple_step}
use Rattle.sb_rawlog.proofs.plain.PlainLogChangeLog.tuple_first.Goals as goal

pub returns : goal.returns
returns c =
    let rs = c.args.self.now.items.items in let long : vec_len c.args.self.now.items ≡ length rs = omega arith in
    tuple_step _ rs c.args.since _ c.args.who c.args.table c.args.tuple c.newest_for.result
    (in_all _ rs (Tuple c.args.who c.args.table c.args.tuple) c.len.result c.newest_for.result c.args.since (c.len.ensures ∙ long) c.newest_for.ensures)
