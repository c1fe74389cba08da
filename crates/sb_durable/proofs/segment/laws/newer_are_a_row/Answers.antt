use Rattle.sb_durable.proofs.Rows as rows
use Rattle.sb_durable.proofs.segment.laws.newer_are_a_row.Goals as goal

pub returns : goal.returns
returns c = rows.newer_are_a_row
