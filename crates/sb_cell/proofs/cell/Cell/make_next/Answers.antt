use Rattle.std.proofs.Common.{◌≡◌, ◌∙◌, ap, sym, subst, length}
use Rattle.sb_tenant.specs.Lending.{HoldRules}
use Rattle.sb_tenant.specs.Tenant.{Tenant, state}
use Rattle.sb_tenant.specs.Volumes.{following}
use Rattle.sb_cell.specs.Tenants.{tenant_at}
use Rattle.sb_cell.proofs.Bounds.{same-bound}
use Rattle.sb_cell.proofs.Renewing.{held, made_next}
use Rattle.sb_cell.proofs.cell.Cell.make_next.Goals as goal

-- the log has nothing of the tenant, and the index has the rules that both have
pub returns-clause-ok : goal.returns-clause-ok
returns-clause-ok c =
    let v = c.args.self.now in
    let f = c.args.fresh.now in
    let o = c.in-Some.old.now in
    let before = ap (tenant_at v) (sym c.number_of.ensures) ∙ sym c.in-Some.ensures.found in
    let own = c.in-Some.ensures.hosted in
    let number = c.in-Some.ensures.number ∙ c.number_of.ensures in
    let shut = c.is_any_open.ensures.closed c.if-is_any_open.false in
    let alike = c.are_alike.ensures c.if-not-are_alike.false in
    let follows = c.follow.ensures.follows c.if-not-follow.false in
    let kept = c.settle.ensures.kept in
    made_next v f o before own number c.log-log.ensures.transactions c.log-log.ensures.in_step shut alike c.settle.new.self
    (ap (λ (t : Tenant). t.id) kept ∙ ap (λ (t : Tenant). t.id) follows)
    (ap (λ (t : Tenant). t.bound) kept ∙ ap (λ (t : Tenant). t.bound) follows)
    (ap (λ (t : Tenant). t.trail) kept ∙ ap (λ (t : Tenant). t.trail) follows)
    (ap (λ (t : Tenant). t.volume) kept ∙ ap (λ (t : Tenant). t.volume) follows)
    (sym c.bound.ensures ∙ same-bound c.bound.result c.bound-2.result (sym c.ne.ensures ∙ c.if-ne.false) ∙ c.bound-2.ensures) c.trail-trail.ensures.legal (c.is_any_open-else-is_any_open.ensures.closed c.if-is_any_open-2.false)
    (c.settle.ensures.in_step v.records v.clock v.index
    (subst (λ (t : Tenant). HoldRules t.id (state t).catalog.rules v.records v.index) (sym follows) (held v f o before own number c.log-log.ensures.transactions c.log-log.ensures.in_step shut alike)))
