use Rattle.std.proofs.Common.{Some}
use Rattle.sb_frontend.proofs.Telling.{pushes-message}
use Rattle.sb_frontend.proofs.tell.push_plain.Goals as goal

pub returns-in-Locked : goal.returns-in-Locked
returns-in-Locked c = pushes-message c.push_message.result c.args.refusal.now (Some c.as_slice.result.now) c.args.out.now.items c.push_message.new.out.items c.requires c.push_message.ensures
