use Rattle.std.proofs.Common.{◌≡◌, ◌/◌, ℕ, sym, subst, get_or, slice_set}
use Rattle.sb_tenant.specs.Tenant.{Tenant}
use Rattle.sb_cell.specs.contracts.cell.Cell.{the_view}
use Rattle.sb_cell.specs.Hosting.{IsHosted}
use Rattle.sb_cell.specs.Renewing.{MayStand, Puts}
use Rattle.sb_cell.specs.Tenants.{Cell}
use Rattle.sb_cell.proofs.Hosted.{read_at}
use Rattle.sb_cell.proofs.Renewing.{put_hosted, puts}
use Rattle.sb_cell.proofs.cell.Cell.put.Goals as goal

pub invariant_of-self : goal.invariant_of-self
invariant_of-self c =
    let v = the_view c.self.inside in
    let n = c.args.next in
    let w = c.index_mut.result.now in
    let stands = subst (λ (x : Cell). MayStand x c.args.next) (sym c.self.view_is) c.requires in
    let here = subst (λ (k : ℕ). w ≡ get_or v.tenants (k / v.stride) w) c.number_of-number.ensures c.index_mut.ensures.value in
    subst (λ (p : ℕ × Tenant). IsHosted (record v { tenants = slice_set v.tenants (p.0 / v.stride) p.1 })) (λ i. (sym c.number_of-number.ensures i, sym c.replace.ensures.after i))
    (put_hosted v c.self.invariant n stands w (read_at v n.id stands.hosted w here))

pub returns : goal.returns
returns c =
    let v = the_view c.self.inside in
    let n = c.args.next in
    let w = c.index_mut.result.now in
    let stands = subst (λ (x : Cell). MayStand x c.args.next) (sym c.self.view_is) c.requires in
    let here = subst (λ (k : ℕ). w ≡ get_or v.tenants (k / v.stride) w) c.number_of-number.ensures c.index_mut.ensures.value in
    subst (λ (x : Cell). Puts x n c.replace.result (record v { tenants = slice_set v.tenants (c.number_of-number.result / v.stride) c.replace.new.dest })) c.self.view_is
    (subst (λ (r : Tenant). Puts v n r (record v { tenants = slice_set v.tenants (c.number_of-number.result / v.stride) c.replace.new.dest })) (sym c.replace.ensures.value)
    (subst (λ (p : ℕ × Tenant). Puts v n w (record v { tenants = slice_set v.tenants (p.0 / v.stride) p.1 })) (λ i. (sym c.number_of-number.ensures i, sym c.replace.ensures.after i))
    (puts v c.self.invariant n stands w (read_at v n.id stands.hosted w here))))
