-- A new cell.
use Rattle.std.proofs.Common.{◌≡◌, ℕ, ◌+◌, ◌*◌, ◌/◌, ◌%◌, ◌<◌, ◌≤◌, true, false, ◌&&◌, ◌==◌, nat_lt, zero, suc, List, [], ◌∷◌, ◌++◌, length, inl, inr, ◌⊎◌, Some, refl, sym, ap, ◌∙◌, subst, arith}
use Rattle.std.specs.List.{slice_get}
use Rattle.std.proofs.lemmas.Bool.{ltb-true, ltb-false}
use Rattle.std.proofs.lemmas.Option.{same_Some}
use Rattle.sb_tenant.specs.declared.bound.Bound.{Bound}
use Rattle.sb_value.specs.declared.id.Who.{Who}
use Rattle.sb_rawlog.specs.Sessions.{records_by}
use Rattle.sb_index.specs.Operation.{Operation}
use Rattle.sb_index.specs.Stands.{stands}
use Rattle.sb_tenant.specs.declared.reply.Entry.{Entry}
use Rattle.sb_tenant.specs.Tenant.{Tenant}
use Rattle.sb_tenant.specs.Lending.{HoldNothing}
use Rattle.sb_tenant.specs.Trail.{IsTrail}
use Rattle.sb_cell.specs.Hosting.{AreFresh, IsAt, IsFresh, IsHosted}
use Rattle.sb_cell.specs.Tenants.{Cell, IsNew, hosts, tenant_at, trail_of, trails}
use Rattle.sb_cell.proofs.Hosted.{by_place, found, not_found, number_of}

-- ---- its tenants

get-one_more : (xs : List Tenant) (x : Tenant) (i : ℕ) (y : Tenant) → slice_get (xs ++ x ∷ []) i ≡ Some y → (slice_get xs i ≡ Some y) ⊎ ((i ≡ length xs) × (x ≡ y))
get-one_more [] x zero y at = inr (refl, same_Some x y at)
get-one_more [] x (suc i) y at = cc
get-one_more (z ∷ xs) x zero y at = inl at
get-one_more (z ∷ xs) x (suc i) y at = by (get-one_more xs x i y at)
  where
    by : (slice_get xs i ≡ Some y) ⊎ ((i ≡ length xs) × (x ≡ y)) → (slice_get xs i ≡ Some y) ⊎ ((suc i ≡ length (z ∷ xs)) × (x ≡ y))
    by (inl at) = inl at
    by (inr (is, same)) = inr (ap suc is, same)

pub fresh-one_more : (first stride : ℕ) (bound : Bound) (tenants : List Tenant) (t : Tenant) → AreFresh first stride bound tenants → IsFresh (first + stride * length tenants) bound t → AreFresh first stride bound (tenants ++ t ∷ [])
fresh-one_more first stride bound tenants t all one place v at = by (get-one_more tenants t place v at)
  where
    by : (slice_get tenants place ≡ Some v) ⊎ ((place ≡ length tenants) × (t ≡ v)) → IsFresh (first + stride * place) bound v
    by (inl here) = all place v here
    by (inr (is, same)) = subst (λ (k : ℕ). IsFresh (first + stride * k) bound v) (sym is) (subst (λ (u : Tenant). IsFresh (first + stride * length tenants) bound u) same one)

-- ---- what holds of it

of_none : (who : Who) → records_by who [] ≡ []
unfolding records_by
of_none who = refl

module _ (c : Cell) (limit : ℕ) (below : c.first < c.stride) (few : limit ≤ 256) (fresh : AreFresh c.first c.stride c.bound c.tenants)
    (all : (place : ℕ) → nat_lt place (length c.tenants) ≡ nat_lt (c.first + c.stride * place) limit) (none : c.records ≡ [])
    (empty : (t table : ℕ) (operation : Operation) (rule : ℕ) → stands c.index t table operation rule ≡ false) where
  no_records : (who : Who) → records_by who c.records ≡ []
  no_records who = ap (records_by who) none ∙ of_none who

  nothing : (id : ℕ) → HoldNothing id c.records c.index
  nothing id = (λ s. no_records (record { tenant = id; session = s }), λ table operation rule. empty id table operation rule)

  fresh_at : (place : ℕ) (t : Tenant) → slice_get c.tenants place ≡ Some t → IsAt c place t
  fresh_at place t at =
      let f = fresh place t at in
      record {
        id = f.0.0;
        bound = f.0.1;
        legal = subst (λ (es : List Entry). IsTrail t.id t.bound es) (sym f.0.2) refl;
        in_step = f.1 c.records c.clock c.index (nothing t.id);
      }

  few_tenants : length c.tenants ≤ 256
  few_tenants =
      elim (nat_lt 256 (length c.tenants)) as (λ b. nat_lt 256 (length c.tenants) ≡ b → length c.tenants ≤ 256) [
        | true ↦ λ many. let far = ltb-true (c.first + c.stride * 256) limit (sym (all 256) ∙ many) in absurd (omega (arith, far, below, few))
        | false ↦ λ h. ltb-false 256 (length c.tenants) h
      ] refl

  pub new_hosted : IsHosted c
  new_hosted = record {
    first = below;
    few = few_tenants;
    tenants = fresh_at;
    records = λ who other. no_records who;
    rules = λ t other. λ table operation rule. empty t table operation rule;
  }

  hosted_so : (t : ℕ) → hosts c t ≡ ((t % c.stride == c.first) && nat_lt t limit)
  hosted_so t =
      elim (t % c.stride == c.first) as (λ b. (t % c.stride == c.first) ≡ b → (b && nat_lt (t / c.stride) (length c.tenants)) ≡ (b && nat_lt t limit)) [
        | true ↦ λ class. all (t / c.stride) ∙ ap (λ n. nat_lt n limit) (number_of c.first c.stride t below class)
        | false ↦ λ class. refl
      ] refl

  no_entries : (w : Tenant) (place : ℕ) → slice_get c.tenants place ≡ Some w → w.trail ≡ []
  no_entries w place at = (fresh place w at).0.2

  no_trails : (t : ℕ) → trails c t ≡ []
  no_trails t =
      elim (hosts c t) as (λ b. hosts c t ≡ b → trail_of (tenant_at c t) ≡ []) [
        | true ↦ λ hosted. let f = found c t hosted in ap trail_of (by_place c t hosted ∙ f.1) ∙ no_entries f.0 (t / c.stride) f.1
        | false ↦ λ other. ap trail_of (not_found c t other)
      ] refl

  pub new_is : IsNew c.first c.stride limit c.bound c
  new_is = record {
    first_is = refl;
    stride_is = refl;
    hosted = hosted_so;
    at_most = refl;
    trails = no_trails;
    records = none;
  }
