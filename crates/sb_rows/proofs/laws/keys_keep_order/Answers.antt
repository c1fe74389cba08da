use Rattle.sb_rows.proofs.CodeLaws.{keys_in_order, keys_in_order_back}
use Rattle.sb_rows.proofs.laws.keys_keep_order.Goals as goal

pub returns-clause-first : goal.returns-clause-first
returns-clause-first c texts a b one = keys_in_order texts a b one

pub returns-clause-second : goal.returns-clause-second
returns-clause-second c texts a b two = keys_in_order_back texts a b two
