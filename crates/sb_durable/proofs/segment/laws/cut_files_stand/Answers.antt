use Rattle.sb_durable.proofs.CutFiles as files
use Rattle.sb_durable.proofs.segment.laws.cut_files_stand.Goals as goal

pub returns : goal.returns
returns c = files.cut_files_stand
