use Rattle.std.proofs.Common.{map}
use Rattle.sb_frontend.specs.Columns.{column_of}
use Rattle.sb_frontend.proofs.Saying.{heads-left}
use Rattle.sb_frontend.proofs.columns.say_columns.Goals as goal

pub returns-else-form : goal.returns-else-form
returns-else-form c = heads-left c.args.form (map column_of c.args.headings.now) c.args.out.now c.if-form.false
