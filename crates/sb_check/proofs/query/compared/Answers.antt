use Rattle.std.proofs.Common.{arith}
use Rattle.sb_check.proofs.Equations.{walk_compare_plain}
use Rattle.sb_check.proofs.query.compared.Goals as goal

pub returns-in_err-left : goal.returns-in_err-left
returns-in_err-left g c = grind (arith, walk_compare_plain)

pub returns-in_err-right : goal.returns-in_err-right
returns-in_err-right g c = grind (arith, walk_compare_plain)

pub returns-then-not-same_type : goal.returns-then-not-same_type
returns-then-not-same_type g c = grind (arith, walk_compare_plain)

pub returns : goal.returns
returns g c = grind (arith, walk_compare_plain)
