use Rattle.std.proofs.Common.{subst}
use Rattle.sb_tenant.specs.Tenant.{IsLegal}
use Rattle.sb_tenant.proofs.tenant.Tenant.into_trail.Goals as goal

pub returns-clause-legal : goal.returns-clause-legal
returns-clause-legal c = subst IsLegal c.self.view_is c.self.invariant.legal
