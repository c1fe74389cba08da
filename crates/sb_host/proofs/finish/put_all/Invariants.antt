use Rattle.std.proofs.Common.{◌≡◌, ℕ, ◌<◌, All, length}
use Rattle.std.specs.Vec.Iter.{into_iter_items}
use Rattle.sb_tenant.specs.Trail.{IsTrail}
use Rattle.sb_host.specs.Comparing.{trail_by, volume_by}
use Rattle.sb_host.specs.Finish.{row_at, volume_at}
use Rattle.sb_host.proofs.finish.put_all.Given as goal

-- the trails are legal, the tenants that are left have places there, and put at them they would end as all of them do
abbrev pub invariant-loop-tenant : goal.invariant-loop-tenant
invariant-loop-tenant g l = record {
  long : length l.trails.items ≡ length l.fn.trails.items;
  wide : length l.volumes.items ≡ length l.fn.trails.items;
  legal : (n : ℕ) → IsTrail n g.bound (row_at l.trails.items n);
  left : All (λ t. (t.id < length l.fn.trails.items) × (t.bound ≡ g.bound)) (into_iter_items l.tenant-iterator);
  put : (n : ℕ) → trail_by n (row_at l.trails.items n) (into_iter_items l.tenant-iterator) ≡ trail_by n (row_at l.fn.trails.items n) l.fn.tenants.items;
  beside : (n : ℕ) → volume_by n (volume_at l.volumes.items n) (into_iter_items l.tenant-iterator) ≡ volume_by n (volume_at l.fn.volumes.items n) l.fn.tenants.items;
}
