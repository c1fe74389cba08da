use Rattle.std.proofs.Common.{◌≡◌, ℕ, ◌<◌, ◌==◌, cond, All, List, ◌∷◌, length, length-set, sym, ap, ◌∙◌, subst, arith}
use Rattle.std.specs.Vec.Iter.{into_iter_items}
use Rattle.std.proofs.lemmas.List.Elements.{All-head, All-same, All-tail}
use Rattle.sb_tenant.specs.declared.bound.Bound.{Bound}
use Rattle.sb_tenant.specs.declared.reply.Entry.{Entry}
use Rattle.sb_tenant.specs.declared.volume.Volume.{Volume}
use Rattle.sb_tenant.specs.Tenant.{Tenant}
use Rattle.sb_tenant.specs.Trail.{IsTrail}
use Rattle.sb_host.specs.Comparing.{trail_by, volume_by}
use Rattle.sb_host.specs.Finish.{row_at, volume_at}
use Rattle.sb_host.proofs.Rows.{kept_by_set, row_laid}
use Rattle.sb_host.proofs.Trails.{volume_laid}
use Rattle.sb_host.proofs.finish.put_all.Goals as goal

pub loop-tenant-preserved : goal.loop-tenant-preserved
loop-tenant-preserved g c =
    let inv = c.loop-tenant.invariant in
    let n = length c.args.trails.now.items in
    let P : Tenant → Type 0 = λ t. (t.id < n) × (t.bound ≡ g.bound) in
    let left = into_iter_items c.next.new.self in
    let steps : into_iter_items c.loop-tenant.tenant-iterator ≡ c.in-Some.tenant ∷ left = c.in-Some.ensures.steps.0 in
    let all : All P (c.in-Some.tenant ∷ left) = All-same P (c.in-Some.tenant ∷ left) (into_iter_items c.loop-tenant.tenant-iterator) (sym steps) inv.left in
    let here = All-head P c.in-Some.tenant left all in
    let v = c.into_trail.result in
    let rows = c.loop-tenant.trails.items in
    let number : c.index-at.result ≡ c.in-Some.tenant.id = c.index-at.ensures.value ∙ c.id.ensures in
    let legal : IsTrail c.in-Some.tenant.id g.bound v.items =
    subst (λ (p : Bound × List Entry). IsTrail c.in-Some.tenant.id p.0 p.1) (λ i. (here.1 i, sym c.into_trail.ensures.value i)) c.into_trail.ensures.legal in
    let long = inv.long in
    let below : c.index-at.result < length rows = omega (arith, here.0, number, long) in
    let volumes = c.loop-tenant.volumes.items in
    let wide = inv.wide in
    let below_too : c.index-at.result < length volumes = omega (arith, here.0, number, wide) in
    record {
      long = length-set rows c.index-at.result v ∙ inv.long;
      wide = length-set volumes c.index-at.result c.volume.result ∙ inv.wide;
      legal = kept_by_set (λ k es. IsTrail k g.bound es) rows c.index-at.result v inv.legal (subst (λ (k : ℕ). IsTrail k g.bound v.items) (sym number) legal);
      left = All-tail P c.in-Some.tenant left all;
      put = λ k.
          ap (λ (l : List Entry). trail_by k l left) (row_laid rows c.index-at.result v k below ∙ (λ i. cond (number i == k) (c.into_trail.ensures.value i) (row_at rows k)))
          ∙ ap (trail_by k (row_at rows k)) (sym steps)
          ∙ inv.put k;
      beside = λ k.
          ap (λ (x : Volume). volume_by k x left) (volume_laid volumes c.index-at.result c.volume.result k below_too ∙ (λ i. cond (number i == k) (c.volume.ensures i) (volume_at volumes k)))
          ∙ ap (volume_by k (volume_at volumes k)) (sym steps)
          ∙ inv.beside k;
    }
