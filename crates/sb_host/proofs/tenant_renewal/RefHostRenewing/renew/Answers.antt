use Rattle.std.proofs.Common.{ℕ}
use Rattle.std.proofs.lemmas.Result.{IfOk-weaker}
use Rattle.sb_tenant.specs.declared.bound.Bound.{Bound}
use Rattle.sb_host.specs.Renewal.{IsRenewed}
use Rattle.sb_host.proofs.tenant_renewal.RefHostRenewing.renew.Goals as goal

pub returns-clause-ok : goal.returns-clause-ok
returns-clause-ok g c =
    IfOk-weaker c.renew.result (λ r. IsRenewed g.N.Naming.bound c.args.stubs.items c.args.fresh r.old r.opening.items)
    (λ r. (bound : Bound) × IsRenewed bound c.args.stubs.items c.args.fresh r.old r.opening.items) (λ r h. (g.N.Naming.bound, h)) c.renew.ensures.ok
