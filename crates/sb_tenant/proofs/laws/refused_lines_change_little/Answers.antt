use Rattle.sb_tenant.proofs.RefusalLaws.{change_nothing, take_locks_at_most}
use Rattle.sb_tenant.proofs.laws.refused_lines_change_little.Goals as goal

pub returns-clause-locks : goal.returns-clause-locks
returns-clause-locks c = take_locks_at_most

pub returns-clause-definitions : goal.returns-clause-definitions
returns-clause-definitions c = change_nothing
