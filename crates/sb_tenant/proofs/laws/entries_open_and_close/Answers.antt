use Rattle.sb_tenant.proofs.ReplayLaws.{others_stay, own_opens}
use Rattle.sb_tenant.proofs.Ending.{ends_close}
use Rattle.sb_tenant.proofs.laws.entries_open_and_close.Goals as goal

pub returns-clause-others : goal.returns-clause-others
returns-clause-others c = others_stay

pub returns-clause-own : goal.returns-clause-own
returns-clause-own c = own_opens

pub returns-clause-ends : goal.returns-clause-ends
returns-clause-ends c = ends_close
