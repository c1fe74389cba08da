-- The trails of a host's cells and their volumes, at the places of their tenants.
use Rattle.std.proofs.Common.{◌≡◌, ℕ, zero, suc, ◌+◌, ◌%◌, ◌<◌, ◌≤◌, ◌==◌, ◌&&◌, true, cond, nat_lt, All, List, [], ◌∷◌, length, get_or, set, Option, Some, None, Vec, refl, sym, ap, ◌∙◌, subst, inl, inr, ◌⊎◌, arith}
use Rattle.std.specs.Global.{Global}
use Rattle.std.specs.List.{Contains}
use Rattle.std.proofs.lemmas.Bool.{and_from, and_parts, cases_eq, eq-eqb, eqb-true, lt-ltb, ne_eqb}
use Rattle.std.proofs.lemmas.List.{get_or-set_other, get_or-set_same}
use Rattle.std.proofs.lemmas.List.Elements.{All-head, All-tail}
use Rattle.sb_tenant.specs.declared.bound.Bound.{Bound}
use Rattle.sb_tenant.specs.declared.reply.Entry.{Entry}
use Rattle.sb_tenant.specs.declared.volume.Volume.{Volume}
use Rattle.sb_tenant.specs.Tenant.{Tenant}
use Rattle.sb_tenant.specs.Volumes.{first_volume}
use Rattle.sb_cell.specs.Tenants.{Cell, hosts, tenant_at, trail_of}
use Rattle.sb_host.specs.Comparing.{AreTrailsOf, last_by, trail_by, volume_by}
use Rattle.sb_host.specs.Finish.{AreTrails, AreKeptAs, IsKept, IsKeptAs, row_at, volume_at}

-- ---- what tenants have, by their numbers

module _ {A : Type 0} (part : Tenant → A) (n : ℕ) (own : A) where
  step : (t : Tenant) (held : A) → (t.id ≡ n → part t ≡ own) → ((t.id ≡ n → ⊥) → held ≡ own) → cond (t.id == n) (part t) held ≡ own
  step t held here there = by (cases_eq t.id n)
    where
      by : (t.id ≡ n) ⊎ (t.id ≡ n → ⊥) → cond (t.id == n) (part t) held ≡ own
      by (inl same) = ap (λ b. cond b (part t) held) (eq-eqb t.id n same) ∙ here same
      by (inr other) = ap (λ b. cond b (part t) held) (ne_eqb t.id n other) ∙ there other

  -- tenants with this number all have this
  abbrev Agree : List Tenant → Type 0
  Agree ts = All (λ t. t.id ≡ n → part t ≡ own) ts

  stays : (held : A) (ts : List Tenant) → Agree ts → held ≡ own → last_by part n held ts ≡ own
  stays held [] all h = h
  stays held (t ∷ ts) all h =
      let P : Tenant → Type 0 = λ t. t.id ≡ n → part t ≡ own in
      stays (cond (t.id == n) (part t) held) ts (All-tail P t ts all) (step t held (All-head P t ts all) (λ other. h))

  -- and one of them has this number
  reaches : (held : A) (ts : List Tenant) (k : ℕ) (d : Tenant) → Agree ts → k < length ts → (get_or ts k d).id ≡ n → last_by part n held ts ≡ own
  reaches held [] k d all within is = absurd (omega arith)
  reaches held (t ∷ ts) zero d all within is =
      let P : Tenant → Type 0 = λ t. t.id ≡ n → part t ≡ own in
      stays (cond (t.id == n) (part t) held) ts (All-tail P t ts all) (step t held (All-head P t ts all) (λ other. absurd (other is)))
  reaches held (t ∷ ts) (suc k) d all within is =
      let P : Tenant → Type 0 = λ t. t.id ≡ n → part t ≡ own in
      reaches (cond (t.id == n) (part t) held) ts k d (All-tail P t ts all) (omega arith) is

-- a volume that is put at a place
pub volume_laid : (volumes : List Volume) (at : ℕ) (v : Volume) (n : ℕ) → at < length volumes → volume_at (set volumes at v) n ≡ cond (at == n) v (volume_at volumes n)
volume_laid volumes at v n within = by (cases_eq at n)
  where
    by : (at ≡ n) ⊎ (at ≡ n → ⊥) → volume_at (set volumes at v) n ≡ cond (at == n) v (volume_at volumes n)
    by (inl same) = ap (volume_at (set volumes at v)) (sym same) ∙ get_or-set_same volumes at v first_volume within ∙ sym (ap (λ b. cond b v (volume_at volumes n)) (eq-eqb at n same))
    by (inr other) = get_or-set_other volumes at n v first_volume (λ e. other (sym e)) ∙ sym (ap (λ b. cond b v (volume_at volumes n)) (ne_eqb at n other))

-- ---- one cell more

abbrev tenant_of : Tenant → Option Tenant → Tenant
tenant_of d None = d
tenant_of d (Some t) = t

module _ (c : Cell) (cells tenants : ℕ) (bound : Bound) (class : ℕ) (own : List Tenant) (rows after : List (Vec Entry Global)) (volumes later : List Volume) (is_bound : c.bound ≡ bound)
    (hosted : (t : ℕ) → hosts c t ≡ ((t % cells == class) && nat_lt t tenants))
    (each : All (λ t. (hosts c t.id ≡ true) × (t.bound ≡ c.bound) × (tenant_at c t.id ≡ Some t)) own)
    (whole : (t : ℕ) → hosts c t ≡ true → (u : Tenant) × Contains own u × (u.id ≡ t))
    (put : (n : ℕ) → row_at after n ≡ trail_by n (row_at rows n) own)
    (beside : (n : ℕ) → volume_at later n ≡ volume_by n (volume_at volumes n) own)
    (before : (t : ℕ) → t < tenants → t % cells < class → IsKeptAs bound t (row_at rows t) (volume_at volumes t)) where
  -- each tenant of this number is the one that the cell has
  of_own : {A : Type 0} (part : Tenant → A) (t : ℕ) (u : Tenant) → tenant_at c t ≡ Some u → All (λ w. w.id ≡ t → part w ≡ part u) own
  of_own part t u is k d within same =
      ap (λ (o : Option Tenant). part (tenant_of u o)) (sym (each k d within).2 ∙ ap (tenant_at c) same ∙ is)

  of_others : {A : Type 0} (part : Tenant → A) (held : A) (t : ℕ) → (t % cells ≡ class → ⊥) → All (λ u. u.id ≡ t → part u ≡ held) own
  of_others part held t other k d within same =
      let here = sym (hosted t) ∙ ap (hosts c) (sym same) ∙ (each k d within).0 in
      absurd (other (eqb-true (t % cells) class (and_parts (t % cells == class) (nat_lt t tenants) here).0))

  pub kept_on : (t : ℕ) → t < tenants → t % cells < class + 1 → IsKeptAs bound t (row_at after t) (volume_at later t)
  kept_on t few below = by (cases_eq (t % cells) class)
    where
      by : (t % cells ≡ class) ⊎ (t % cells ≡ class → ⊥) → IsKeptAs bound t (row_at after t) (volume_at later t)
      by (inl same) =
          let here : hosts c t ≡ true = hosted t ∙ and_from (t % cells == class) (nat_lt t tenants) (eq-eqb (t % cells) class same) (lt-ltb t tenants few) in
          let u = whole t here in
          let number : (get_or own u.1.0 u.0).id ≡ t = ap (λ (w : Tenant). w.id) u.1.2 ∙ u.2 in
          let is : tenant_at c t ≡ Some u.0 =
          ap (tenant_at c) (sym number) ∙ (each u.1.0 u.0 u.1.1).2 ∙ ap Some u.1.2 in (
            c,
            u.0,
            here,
            is_bound,
            is,
            put t ∙ reaches (λ (w : Tenant). w.trail) t u.0.trail (row_at rows t) own u.1.0 u.0 (of_own (λ (w : Tenant). w.trail) t u.0 is) u.1.1 number,
            beside t ∙ reaches (λ (w : Tenant). w.volume) t u.0.volume (volume_at volumes t) own u.1.0 u.0 (of_own (λ (w : Tenant). w.volume) t u.0 is) u.1.1 number,
          )
      by (inr other) =
          subst (λ (p : List Entry × Volume). IsKeptAs bound t p.0 p.1)
          (λ i. (
            sym (put t ∙ stays (λ (w : Tenant). w.trail) t (row_at rows t) (row_at rows t) own (of_others (λ (w : Tenant). w.trail) (row_at rows t) t other) refl) i,
            sym (beside t ∙ stays (λ (w : Tenant). w.volume) t (volume_at volumes t) (volume_at volumes t) own (of_others (λ (w : Tenant). w.volume) (volume_at volumes t) t other) refl) i,
          ))
          (before t few (omega arith))

-- a number past the last cell is no tenant's
pub no_cell : (cells : ℕ) (bound : Bound) (tenants class : ℕ) (trails : List (Vec Entry Global)) (volumes : List Volume) → 0 < cells → cells ≤ class → AreTrailsOf cells bound tenants class trails volumes → AreTrailsOf cells bound tenants (class + 1) trails volumes
no_cell cells bound tenants class trails volumes some past h = (h.0, h.1, λ t few below. h.2 t few (omega arith), h.3)

-- ---- all cells

kept : (bound : Bound) (t : ℕ) (trail : List Entry) (volume : Volume) → IsKeptAs bound t trail volume → IsKept bound t trail
kept bound t trail volume (c, own, here, is_bound, is, same, its) = (c, here, is_bound, same ∙ sym (ap trail_of is))

module _ (cells : ℕ) (bound : Bound) (tenants class : ℕ) (trails : List (Vec Entry Global)) (volumes : List Volume) (some : 0 < cells) (all : cells ≤ class) (h : AreTrailsOf cells bound tenants class trails volumes) where
  pub all_trails : AreTrails bound tenants trails
  all_trails = (h.0, h.1, λ t few. kept bound t (row_at trails t) (volume_at volumes t) (h.2 t few (omega arith)))

  pub all_volumes : AreKeptAs bound trails volumes
  all_volumes = (h.3 ∙ sym h.0, λ t few. h.2 t (omega (arith, h.0)) (omega arith))
