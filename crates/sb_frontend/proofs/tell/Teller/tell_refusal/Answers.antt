use Rattle.sb_postgres.specs.Kinds.{kind_of}
use Rattle.sb_frontend.specs.Tellings.{defines}
use Rattle.sb_frontend.proofs.Telling.{made-refuses}
use Rattle.sb_frontend.proofs.tell.Teller.tell_refusal.Goals as goal

pub returns : goal.returns
returns g c = made-refuses c.report_refusal-made.result (defines (kind_of c.args.statement.now.line.items)) c.args.refusal.now c.args.out.now c.say_made.new.out c.report_refusal-made.ensures c.say_made.ensures
