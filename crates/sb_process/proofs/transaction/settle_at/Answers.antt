use Rattle.std.proofs.Common.{◌∙◌, sym}
use Rattle.sb_process.proofs.Settling.{there}
use Rattle.sb_process.proofs.Settled.{none-settled, one-settled}
use Rattle.sb_process.proofs.transaction.settle_at.Goals as goal

pub settle-requires : goal.settle-requires
settle-requires c = there c.args.tables.now c.args.table c.get.result c.is_some.result c.get.ensures c.is_some.ensures ∙ c.if-is_some.true

pub returns-then-is_some : goal.returns-then-is_some
returns-then-is_some c = λ n. c.settle.ensures ∙ one-settled c.args.table c.args.tables.now n

pub returns-else-is_some : goal.returns-else-is_some
returns-else-is_some c = λ n. sym (none-settled c.args.table c.args.tables.now (there c.args.tables.now c.args.table c.get.result c.is_some.result c.get.ensures c.is_some.ensures ∙ c.if-is_some.false))
