use Rattle.sb_rows.proofs.Counts.{filter_alike}
use Rattle.sb_rows.proofs.laws.selected_rows_pass.Goals as goal

pub returns : goal.returns
returns c passes count = filter_alike passes count
