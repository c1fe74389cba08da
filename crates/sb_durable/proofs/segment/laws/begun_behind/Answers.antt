use Rattle.sb_durable.proofs.Rows as rows
use Rattle.sb_durable.proofs.segment.laws.begun_behind.Goals as goal

pub returns : goal.returns
returns c = rows.begun_behind
