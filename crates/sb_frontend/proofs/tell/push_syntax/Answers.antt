use Rattle.std.proofs.Common.{Some}
use Rattle.sb_value.specs.declared.refusal.Refusal.TheVariants.{Syntax}
use Rattle.sb_frontend.proofs.Telling.{pushes-message}
use Rattle.sb_frontend.proofs.tell.push_syntax.Goals as goal

pub returns-in-Some : goal.returns-in-Some
returns-in-Some c = pushes-message c.push_message.result Syntax (Some c.in-Some.word.now) c.args.out.now.items c.push_message.new.out.items c.requires c.push_message.ensures
