use Rattle.std.proofs.Common.{◌≡◌, ◌∙◌, ◌/◌, ap, sym, subst, true}
use Rattle.sb_cell.specs.contracts.cell.Cell.{the_view}
use Rattle.sb_cell.specs.Tenants.{Cell, IsTenantOf, hosts, tenant_at}
use Rattle.sb_cell.proofs.Hosted.{by_place, hosted_at, not_found, number_is, read_at}
use Rattle.sb_cell.proofs.cell.Cell.tenant.Goals as goal

pub returns-then-hosts-clause-found : goal.returns-then-hosts-clause-found
returns-then-hosts-clause-found c =
    let v = the_view c.self.inside in
    let hosted = subst (λ (x : Cell). hosts x c.args.tenant ≡ true) (sym c.self.view_is) (sym c.hosts.ensures ∙ c.if-hosts.true) in
    let at = read_at v c.args.tenant hosted c.index.result.now c.index.ensures in
    sym (by_place v c.args.tenant hosted ∙ at) ∙ ap (λ (x : Cell). tenant_at x c.args.tenant) c.self.view_is

pub returns-then-hosts-clause-hosted : goal.returns-then-hosts-clause-hosted
returns-then-hosts-clause-hosted c =
    let v = the_view c.self.inside in
    let hosted = subst (λ (x : Cell). hosts x c.args.tenant ≡ true) (sym c.self.view_is) (sym c.hosts.ensures ∙ c.if-hosts.true) in
    let at = read_at v c.args.tenant hosted c.index.result.now c.index.ensures in
    subst (λ (x : Cell). IsTenantOf x c.index.result.now) c.self.view_is (hosted_at v c.self.invariant c.args.tenant hosted c.index.result.now at)

pub returns-then-hosts-clause-number : goal.returns-then-hosts-clause-number
returns-then-hosts-clause-number c =
    let v = the_view c.self.inside in
    let hosted = subst (λ (x : Cell). hosts x c.args.tenant ≡ true) (sym c.self.view_is) (sym c.hosts.ensures ∙ c.if-hosts.true) in
    let at = read_at v c.args.tenant hosted c.index.result.now c.index.ensures in
    (c.self.invariant.tenants (c.args.tenant / v.stride) c.index.result.now at).id ∙ number_is v c.args.tenant c.self.invariant hosted

pub returns-else-hosts-clause-found : goal.returns-else-hosts-clause-found
returns-else-hosts-clause-found c = sym (not_found c.args.self.now c.args.tenant (sym c.hosts.ensures ∙ c.if-hosts.false))
