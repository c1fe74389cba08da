use Rattle.sb_durable.proofs.Rows as rows
use Rattle.sb_durable.proofs.segment.laws.only_the_newest_is_written.Goals as goal

pub returns : goal.returns
returns c = rows.only_the_newest_is_written
