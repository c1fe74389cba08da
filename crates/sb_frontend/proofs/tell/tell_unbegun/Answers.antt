use Rattle.sb_postgres.specs.declared.told.sqlstate.SqlState.TheVariants.{OutOfMemory}
use Rattle.sb_frontend.specs.Tellings.{unbegun_text}
use Rattle.sb_frontend.proofs.Saying.{says-failure}
use Rattle.sb_frontend.proofs.tell.tell_unbegun.Goals as goal

pub returns : goal.returns
returns c = says-failure OutOfMemory unbegun_text c.args.out.now c.say_error.new.self c.say_error.ensures
