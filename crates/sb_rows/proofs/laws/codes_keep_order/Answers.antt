use Rattle.sb_rows.proofs.CodeLaws.{codes_in_order}
use Rattle.sb_rows.proofs.laws.codes_keep_order.Goals as goal

pub returns : goal.returns
returns c texts a b one two = codes_in_order texts a b one two
