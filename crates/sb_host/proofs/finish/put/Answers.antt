use Rattle.std.proofs.Common.{ℕ, ◌≡◌, ◌<◌, ◌≤◌, ◌==◌, ◌%◌, ◌⊎◌, nat_lt, get_or, ltb-true, inl, inr, sym, ap, ◌∙◌, subst, Option, None, arith}
use Rattle.std.specs.Prelude.{IsSome}
use Rattle.std.proofs.lemmas.Bool.{and_parts, cases_lt, false≢true}
use Rattle.sb_cell.specs.Tenants.{Cell, hosts}
use Rattle.sb_tenant.specs.Tenant.{Tenant}
use Rattle.sb_host.proofs.Trails.{kept_on, no_cell}
use Rattle.sb_host.proofs.finish.put.Goals as goal

pub put_all-requires : goal.put_all-requires
put_all-requires g c = (
  c.requires.trails.1,
  (
    λ k d below.
        let t : Tenant = get_or c.into_tenants.result.items k d in
        let h = c.into_tenants.ensures.hosted k d below in
        let same = c.into_cell.ensures.same in
        let hosted = sym (c.into_cell.ensures.hosts t.id) ∙ sym (ap (λ (x : Cell). hosts x t.id) same) ∙ h.0 in
        let few : t.id < g.N.Naming.tenants = ltb-true t.id g.N.Naming.tenants (and_parts (t.id % g.N.Naming.cells == g.row.F) (nat_lt t.id g.N.Naming.tenants) hosted).1 in
        let long = c.requires.trails.0 in
        (omega (arith, few, long), h.1 ∙ ap (λ (x : Cell). x.bound) same ∙ c.into_cell.ensures.of.2),
    c.requires.trails.3 ∙ sym c.requires.trails.0,
  ),
)

-- a cell more
pub returns-in-Some : goal.returns-in-Some
returns-in-Some g c =
    let same = c.into_cell.ensures.same in (
      c.put_all.ensures.length.0 ∙ c.requires.trails.0,
      c.put_all.ensures.legal,
      kept_on c.into_cell.result g.N.Naming.cells g.N.Naming.tenants g.N.Naming.bound g.row.F c.into_tenants.result.items c.args.trails.now.items c.put_all.new.trails.items c.args.volumes.now.items c.put_all.new.volumes.items
          (ap (λ (x : Cell). x.bound) same ∙ c.into_cell.ensures.of.2)
          (λ t. ap (λ (x : Cell). hosts x t) same ∙ c.into_cell.ensures.hosts t)
          c.into_tenants.ensures.hosted c.into_tenants.ensures.whole c.put_all.ensures.put c.put_all.ensures.beside c.requires.trails.2,
      c.put_all.ensures.length.1 ∙ c.requires.trails.3,
    )

past : {A : Type 0} (lock : Option A) (class cells : ℕ) → (class < cells → IsSome lock) → lock ≡ None → cells ≤ class
past lock class cells there none = by (cases_lt class cells)
  where
    by : (class < cells) ⊎ (cells ≤ class) → cells ≤ class
    by (inl few) = absurd (false≢true (subst IsSome none (there few)))
    by (inr beyond) = beyond

-- a host with fewer cells has no tenant there
pub returns-in_default : goal.returns-in_default
returns-in_default g c =
    no_cell g.N.Naming.cells g.N.Naming.bound g.N.Naming.tenants g.row.F c.args.trails.now.items c.args.volumes.now.items c.requires.cells (past c.args.lock g.row.F g.N.Naming.cells c.requires.there c.in_default.is) c.requires.trails
