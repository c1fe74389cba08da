use Rattle.std.proofs.Common.{◌≡◌}
use Rattle.std.proofs.lemmas.Result.{IfErr-weaker}
use Rattle.sb_cell.specs.Renewal.{Renews}
use Rattle.sb_host.specs.Renewal.{AllAreEntries, AreInOrderOf, IsUnrenewedBy}
use Rattle.sb_host.specs.Renewing.{VolumeIsRenewed, VolumeIsUnrenewed, held_by}
use Rattle.sb_host.proofs.Renewals.{both_ok, refused}
use Rattle.sb_host.proofs.locks.renew_in.Goals as goal

pub returns-clause-ok : goal.returns-clause-ok
returns-clause-ok g c =
    let old = c.deref_mut.result.now in
    let new = c.renew_on.new.desk in
    both_ok c.renew_on.result
    (λ r. Renews old r.old c.args.fresh new × AllAreEntries r.old.trail (held_by c.args.stubs))
    (λ r. (r.stubs.tenant ≡ c.args.stubs.tenant) × AreInOrderOf c.args.fresh.trail (held_by r.stubs))
    (λ r. VolumeIsRenewed g.N.Naming.bound c.args.stubs c.args.fresh r.old r.stubs)
    (λ r p q. (old, new, c.renew_on.ensures.cell.1, p.0, p.1, q.0, q.1)) c.renew_on.ensures.ok c.renew_on.ensures.next

pub returns-clause-err : goal.returns-clause-err
returns-clause-err g c =
    let old = c.deref_mut.result.now in
    let new = c.renew_on.new.desk in
    IfErr-weaker c.renew_on.result
    (λ e. (new ≡ old) × IsUnrenewedBy old (held_by c.args.stubs) c.args.fresh e.error)
    (λ e. VolumeIsUnrenewed g.N.Naming.bound c.args.stubs c.args.fresh e.error)
    (λ e h. refused g.N.Naming.bound c.args.stubs c.args.fresh old e.error c.renew_on.ensures.cell h.1) c.renew_on.ensures.err
