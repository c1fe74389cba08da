use Rattle.sb_frontend.proofs.Telling.{rows-told}
use Rattle.sb_frontend.proofs.tell.Teller.tell_rows.Goals as goal

pub returns : goal.returns
returns g c = rows-told c.args.self.now.form c.args.rows.now c.args.out.now c.tell_columns.new.out c.say_rows.new.self c.tell_columns.ensures c.say_rows.ensures
