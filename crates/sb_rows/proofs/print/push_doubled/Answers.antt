-- where there is no quote, nothing is doubled
use Rattle.std.proofs.Common.{rules}
use Rattle.sb_rows.proofs.Newlines.{none_doubled}
use Rattle.sb_rows.proofs.print.push_doubled.Goals as goal

pub returns-in_ok-extend_from_slice-in-None-clause-ok : goal.returns-in_ok-extend_from_slice-in-None-clause-ok
returns-in_ok-extend_from_slice-in-None-clause-ok c = rw (none_doubled c.args.text.now c.in-None.ensures) (search rules)
