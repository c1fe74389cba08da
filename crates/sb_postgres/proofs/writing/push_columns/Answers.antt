use Rattle.sb_postgres.specs.Answers.{IsColumn, column, column_seen}
use Rattle.sb_postgres.proofs.Pushing.{counted_as_seen}
use Rattle.sb_postgres.proofs.writing.push_columns.Goals as goal

pub returns : goal.returns
returns c = counted_as_seen column_seen IsColumn column c.args.columns.now c.args.out.now.items c.push_counted.new.out.items c.push_counted.result c.push_counted.ensures
