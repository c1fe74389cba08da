use Rattle.std.proofs.Common.{refl}
use Rattle.sb_frontend.specs.Tellings.{AreColumns}
use Rattle.sb_frontend.proofs.Saying.{says-some, some-failed}
use Rattle.sb_frontend.proofs.tell.Teller.tell_columns.Goals as goal

pub returns-in-Ok : goal.returns-in-Ok
returns-in-Ok g c = says-some (AreColumns c.args.self.now.form) _ c.args.out.now c.say_columns.new.out (_, refl) c.say_columns.ensures

pub returns-in-Err : goal.returns-in-Err
returns-in-Err g c = some-failed (AreColumns c.args.self.now.form) c.args.out.now c.fail.new.self c.fail.ensures
