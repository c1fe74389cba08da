use Rattle.std.proofs.Common.{rules}
use Rattle.sb_desk.proofs.ReceiptSteps.{last_of-push}
use Rattle.sb_desk.proofs.receipts.Receipts.note.Goals as goal

pub returns-clause-note : goal.returns-clause-note
returns-clause-note g c = search (rules, last_of-push)
