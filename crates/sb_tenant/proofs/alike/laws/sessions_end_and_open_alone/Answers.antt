use Rattle.sb_tenant.proofs.Renewing.{end_alone, open_alone}
use Rattle.sb_tenant.proofs.alike.laws.sessions_end_and_open_alone.Goals as goal

pub returns-clause-ends : goal.returns-clause-ends
returns-clause-ends c tenant bound = end_alone tenant bound (c.states_are_well_formed.ensures tenant bound)

pub returns-clause-opens : goal.returns-clause-opens
returns-clause-opens c tenant bound = open_alone tenant bound
