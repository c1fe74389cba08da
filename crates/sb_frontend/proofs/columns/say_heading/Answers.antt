use Rattle.sb_frontend.proofs.Saying.{says-failed, says-headed}
use Rattle.sb_frontend.proofs.columns.say_heading.Goals as goal

pub returns-in-Ok : goal.returns-in-Ok
returns-in-Ok c = says-headed c.args.form c.in-Ok.heading c.args.name.now c.args.of c.args.out.now c.say_columns.new.out c.in-Ok.ensures c.say_columns.ensures

pub returns-in-Err : goal.returns-in-Err
returns-in-Err c = says-failed _ c.args.out.now c.fail.new.self c.fail.ensures
