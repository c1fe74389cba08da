use Rattle.std.proofs.Common.{option_copied}
use Rattle.sb_postgres.specs.Fields.{IsValue, value}
use Rattle.sb_postgres.proofs.Pushing.{counted_as_seen}
use Rattle.sb_postgres.proofs.writing.push_values.Goals as goal

pub returns : goal.returns
returns c = counted_as_seen option_copied IsValue value c.args.values.now c.args.out.now.items c.push_counted.new.out.items c.push_counted.result c.push_counted.ensures
