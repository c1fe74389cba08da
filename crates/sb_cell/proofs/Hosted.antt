-- The tenants of a cell by their numbers.
use Rattle.std.proofs.Common.{◌≡◌, ℕ, zero, suc, ◌+◌, ◌*◌, ◌/◌, ◌%◌, ◌<◌, Bool, true, false, cond, ◌&&◌, ◌==◌, nat_lt, List, [], ◌∷◌, length, get_or, slice_set, Some, None, refl, sym, ap, ◌∙◌, arith}
use Rattle.std.specs.List.{All, Contains, slice_get}
use Rattle.std.proofs.Math.Nat.{add-mul-div_left}
use Rattle.std.proofs.lemmas.Bool.{and_from, and_parts, eq-eqb, eqb-true, lt-ltb, ltb-true, ltb-false}
use Rattle.std.proofs.lemmas.Nat.{div-mul-add, mod-mul-add}
use Rattle.std.proofs.lemmas.Option.{get_or_from_slice_get, slice_get-get_or, slice_get_past, slice_get_read}
use Rattle.sb_tenant.specs.State.{opening}
use Rattle.sb_tenant.specs.Tenant.{Tenant}
use Rattle.sb_tenant.specs.Trail.{state_of}
use Rattle.sb_cell.specs.Hosting.{IsHosted}
use Rattle.sb_cell.specs.Tenants.{Cell, IsTenantOf, hosts, states, tenant_at, trail_of}

-- ---- places in a list

there : {A : Type 0} (xs : List A) (i : ℕ) → i < length xs → (x : A) × (slice_get xs i ≡ Some x)
there [] i h = absurd (omega arith)
there (x ∷ xs) zero h = (x, refl)
there (x ∷ xs) (suc i) h = there xs i (omega arith)

pub set-own : {A : Type 0} (xs : List A) (i : ℕ) (x : A) → i < length xs → slice_get (slice_set xs i x) i ≡ Some x
set-own [] i x h = absurd (omega arith)
set-own (y ∷ xs) zero x h = refl
set-own (y ∷ xs) (suc i) x h = set-own xs i x (omega arith)

pub set-other : {A : Type 0} (xs : List A) (i j : ℕ) (x : A) → (j ≡ i → ⊥) → slice_get (slice_set xs i x) j ≡ slice_get xs j
set-other [] i j x h = refl
set-other (y ∷ xs) zero zero x h = absurd (h refl)
set-other (y ∷ xs) zero (suc j) x h = refl
set-other (y ∷ xs) (suc i) zero x h = refl
set-other (y ∷ xs) (suc i) (suc j) x h = set-other xs i j x (λ e. h (ap suc e))

-- ---- numbers and places

-- two places have two numbers
pub place_of : (first stride i j : ℕ) → first < stride → first + stride * i ≡ first + stride * j → i ≡ j
place_of first stride i j below same =
    let positive : 0 < stride = omega arith in
    let one = add-mul-div_left first i positive in
    let other = add-mul-div_left first j positive in
    let both = ap (λ n. n / stride) same in
    omega (arith, one, other, both)

-- the place of a place's number
own_place : (first stride place : ℕ) → first < stride → (first + stride * place) / stride ≡ place
own_place first stride place below =
    let turned : first + stride * place ≡ place * stride + first = omega arith in
    ap (λ k. k / stride) turned ∙ div-mul-add place stride first below

-- the number of a place is hosted
pub own_number : (first stride place n : ℕ) → first < stride → place < n → (((first + stride * place) % stride == first) && nat_lt ((first + stride * place) / stride) n) ≡ true
own_number first stride place n below within =
    let turned : first + stride * place ≡ place * stride + first = omega arith in
    let rest = ap (λ k. k % stride) turned ∙ mod-mul-add place stride first below in
    let quotient = own_place first stride place below in
    and_from _ _ (eq-eqb _ _ rest) (lt-ltb _ _ (omega (arith, quotient)))

-- a hosted number is that of its place
pub number_of : (first stride t : ℕ) → first < stride → (t % stride == first) ≡ true → first + stride * (t / stride) ≡ t
number_of first stride t below same = let rest = eqb-true (t % stride) first same in omega arith

module _ (c : Cell) (t : ℕ) where
  own_class : hosts c t ≡ true → (t % c.stride == c.first) ≡ true
  own_class hosted = (and_parts (t % c.stride == c.first) (nat_lt (t / c.stride) (length c.tenants)) hosted).0

  pub within : hosts c t ≡ true → t / c.stride < length c.tenants
  within hosted = ltb-true (t / c.stride) (length c.tenants) (and_parts (t % c.stride == c.first) (nat_lt (t / c.stride) (length c.tenants)) hosted).1

  -- where a tenant is hosted it stands at its place
  pub by_place : hosts c t ≡ true → tenant_at c t ≡ slice_get c.tenants (t / c.stride)
  by_place hosted = ap (λ b. cond b (slice_get c.tenants (t / c.stride)) None) (own_class hosted)

  pub found : hosts c t ≡ true → (w : Tenant) × (slice_get c.tenants (t / c.stride) ≡ Some w)
  found hosted = there c.tenants (t / c.stride) (within hosted)

  -- and where it isn't, there is none
  pub not_found : hosts c t ≡ false → tenant_at c t ≡ None
  not_found other = by (t % c.stride == c.first) other
    where
      by : (b : Bool) → (b && nat_lt (t / c.stride) (length c.tenants)) ≡ false → cond b (slice_get c.tenants (t / c.stride)) None ≡ None
      by true h = slice_get_past c.tenants (t / c.stride) (ltb-false (t / c.stride) (length c.tenants) h)
      by false h = refl

  pub number_is : IsHosted c → hosts c t ≡ true → c.first + c.stride * (t / c.stride) ≡ t
  number_is h hosted = number_of c.first c.stride t h.first (own_class hosted)

  -- a tenant that is there stands at its place
  pub at_place : (w : Tenant) → tenant_at c t ≡ Some w → slice_get c.tenants (t / c.stride) ≡ Some w
  at_place w = by (t % c.stride == c.first)
    where
      by : (b : Bool) → cond b (slice_get c.tenants (t / c.stride)) None ≡ Some w → slice_get c.tenants (t / c.stride) ≡ Some w
      by true h = h
      by false h = cc

  -- where it isn't hosted, there is nothing
  pub nobody : hosts c t ≡ false → opening ≡ states c t
  nobody other = λ i. state_of t c.bound (trail_of (sym (not_found other) i))

  -- the tenant that is read at its place
  pub read_at : hosts c t ≡ true → (w : Tenant) → w ≡ get_or c.tenants (t / c.stride) w → slice_get c.tenants (t / c.stride) ≡ Some w
  read_at hosted w is = slice_get_read c.tenants (length c.tenants) (t / c.stride) w refl (within hosted) is

-- where it is hosted, it is one of the tenants
pub everyone : (c : Cell) → IsHosted c → (t : ℕ) → hosts c t ≡ true → (own : Tenant) × Contains c.tenants own × (own.id ≡ t)
everyone c h t hosted =
    let own = found c t hosted in (
      own.0,
      (t / c.stride, within c t hosted, get_or_from_slice_get c.tenants (t / c.stride) own.0 own.0 own.1),
      (h.tenants (t / c.stride) own.0 own.1).id ∙ number_of c.first c.stride t h.first (own_class c t hosted),
    )

-- each tenant is hosted under its own number
pub all_hosted : (c : Cell) → IsHosted c → All (λ t. (hosts c t.id ≡ true) × (t.bound ≡ c.bound) × (tenant_at c t.id ≡ Some t)) c.tenants
all_hosted c h place d inside =
    let at = h.tenants place (get_or c.tenants place d) (slice_get-get_or c.tenants place d inside) in
    let hosted = ap (hosts c) at.id ∙ own_number c.first c.stride place (length c.tenants) h.first inside in (
      hosted,
      at.bound,
      by_place c (get_or c.tenants place d).id hosted ∙ ap (slice_get c.tenants) (ap (λ k. k / c.stride) at.id ∙ own_place c.first c.stride place h.first) ∙ slice_get-get_or c.tenants place d inside,
    )

-- the one that is read is hosted under its own number
pub hosted_at : (c : Cell) → IsHosted c → (t : ℕ) → hosts c t ≡ true → (w : Tenant) → slice_get c.tenants (t / c.stride) ≡ Some w → IsTenantOf c w
hosted_at c h t hosted w is =
    let at = h.tenants (t / c.stride) w is in
    let same : w.id ≡ t = at.id ∙ number_of c.first c.stride t h.first (own_class c t hosted) in
    (ap (hosts c) same ∙ hosted, at.bound, ap (tenant_at c) same ∙ by_place c t hosted ∙ is)
