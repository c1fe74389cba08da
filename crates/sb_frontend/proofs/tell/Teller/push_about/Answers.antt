use Rattle.std.proofs.Common.{Some}
use Rattle.sb_frontend.proofs.Telling.{pushes-message}
use Rattle.sb_frontend.proofs.tell.Teller.push_about.Goals as goal

pub returns-in-InTransaction : goal.returns-in-InTransaction
returns-in-InTransaction g c =
    pushes-message c.push_message-in-InTransaction.result c.args.refusal.now (Some c.first_word.result.now) c.args.out.now.items c.push_message-in-InTransaction.new.out.items c.requires c.push_message-in-InTransaction.ensures
