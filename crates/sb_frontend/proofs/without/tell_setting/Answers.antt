use Rattle.std.proofs.Common.{codes, ap, sym, ◌∙◌}
use Rattle.std.specs.Prelude.{option_copied}
use Rattle.sb_postgres.specs.declared.told.sqlstate.SqlState.TheVariants.{UndefinedObject}
use Rattle.sb_postgres.specs.Settings.{setting_of}
use Rattle.sb_frontend.proofs.Saying.{says-failure}
use Rattle.sb_frontend.proofs.Stepless.{setting-missing, setting-there}
use Rattle.sb_frontend.proofs.without.tell_setting.Goals as goal

pub returns-in-Some-clause-told : goal.returns-in-Some-clause-told
returns-in-Some-clause-told c =
    setting-there c.args.form c.args.name.now c.in-Some.value.now (setting_of c.args.name.now) c.args.out.now c.tell_value.new.out (sym c.setting_of.ensures ∙ ap option_copied c.in-Some.is) c.tell_value.ensures.told

pub returns-in-None-clause-told : goal.returns-in-None-clause-told
returns-in-None-clause-told c =
    setting-missing c.args.form c.args.name.now (setting_of c.args.name.now) c.args.out.now c.say_error.new.self (sym c.setting_of.ensures ∙ ap option_copied c.in-None.is) c.requires
    (says-failure UndefinedObject (codes "unrecognized configuration parameter") c.args.out.now c.say_error.new.self c.say_error.ensures)
