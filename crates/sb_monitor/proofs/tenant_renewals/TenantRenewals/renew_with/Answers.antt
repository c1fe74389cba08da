use Rattle.std.proofs.Common.{◌∙◌, List, ap, inl, subst}
use Rattle.sb_host.specs.Desk.{Stub}
use Rattle.sb_backup.specs.Renewals.{Renewed}
use Rattle.sb_monitor.proofs.tenant_renewals.TenantRenewals.renew_with.Goals as goal

-- it was renewed by those that were held and the others
pub returns-in-Ok-clause-ok : goal.returns-in-Ok-clause-ok
returns-in-Ok-clause-ok g c =
    subst (λ (all : List Stub). Renewed c.args.tenant all c.in-Ok.opening.items) (ap (λ all. all.items) c.replace-all.ensures.value ∙ c.take_in.ensures)
    c.in-Ok.ensures.ok

pub returns-in-Ok-clause-taken : goal.returns-in-Ok-clause-taken
returns-in-Ok-clause-taken g c = inl (returns-in-Ok-clause-ok g c)
