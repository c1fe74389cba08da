use Rattle.sb_check.proofs.Seeing.{queries_same, statements_same}
use Rattle.sb_check.proofs.laws.walks_see_columns.Goals as goal

pub returns : goal.returns
returns c = record { queries = queries_same; statements = statements_same }
