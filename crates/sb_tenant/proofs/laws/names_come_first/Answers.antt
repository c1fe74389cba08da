use Rattle.sb_tenant.proofs.Walks.{first}
use Rattle.sb_tenant.proofs.laws.names_come_first.Goals as goal

pub returns : goal.returns
returns c = first
