use Rattle.sb_durable.proofs.Rows as rows
use Rattle.sb_durable.proofs.segment.laws.one_end_one_row.Goals as goal

pub returns : goal.returns
returns c = rows.one_end_one_row
