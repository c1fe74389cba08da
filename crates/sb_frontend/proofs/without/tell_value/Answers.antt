use Rattle.sb_frontend.specs.Columns.{one_value}
use Rattle.sb_frontend.proofs.Saying.{tells-after}
use Rattle.sb_frontend.proofs.without.tell_value.Goals as goal

pub returns-clause-told : goal.returns-clause-told
returns-clause-told c =
    tells-after (one_value c.args.form c.args.name.now c.args.of c.args.value.now) _ c.args.out.now c.say_value.new.out c.hold_found.new.out c.say_value.ensures c.hold_found.ensures
