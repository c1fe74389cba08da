use Rattle.sb_postgres.specs.Answers.{IsField, field, field_seen}
use Rattle.sb_postgres.proofs.Pushing.{as_seen}
use Rattle.sb_postgres.proofs.writing.push_each_field.Goals as goal

pub returns : goal.returns
returns c = as_seen field_seen IsField field c.args.fields.now c.args.out.now.items c.push_all.new.out.items c.push_all.result c.push_all.ensures
