use Rattle.std.proofs.Common.{◌-◌, length, arith}
use Rattle.sb_desk.proofs.ReceiptSteps.{last_of-at}
use Rattle.sb_desk.proofs.receipts.last_answer.Goals as goal

pub returns-else-list-eq0 : goal.returns-else-list-eq0
returns-else-list-eq0 c = last_of-at c.args.list.now (length c.args.list.now - 1) c.index-list-list.result (omega arith)
