use Rattle.std.proofs.Common.{arith}
use Rattle.std.proofs.lemmas.Grind.{common_steps}
use Rattle.sb_desk.proofs.ReceiptSteps.{last_of-push}
use Rattle.sb_desk.proofs.receipts.Receipts.note_end.Goals as goal

pub returns-clause-note : goal.returns-clause-note
returns-clause-note g c = grind (arith, common_steps, last_of-push)
